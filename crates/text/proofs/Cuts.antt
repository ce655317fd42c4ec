-- A text cut at its first blank.
use Rattle.std.proofs.Common.{◌≡◌, ℕ, suc, ◌+◌, ◌<◌, ◌≤◌, Bool, true, false, cond, not, ◌==◌, eqb, List, [], ◌∷◌, length, take, drop, ltb, position, is_some, Some, None, Option, sym, refl, ap, ◌∙◌, subst, arith, Bor}
use Rattle.std.proofs.lemmas.Bool.{cond_both, ltb-true, ltb-false}
use Rattle.std.proofs.lemmas.List.Recursion.{is_position_or_len}
use Rattle.std.specs.List.{position_or_len}
use Rattle.std.specs.Option.{MatchOption}
use Rattle.text.specs.Cursor.{unread}
use Rattle.text.specs.Lines.{pieces, lengthened, wordless}

-- how many bytes stand before the first blank
abbrev pub before_blank : List ℕ → ℕ
before_blank [] = 0
before_blank (c ∷ cs) = cond (c == 32) 0 (suc (before_blank cs))

-- a text has at least one word
pub pieces_some : (s : List ℕ) → wordless (pieces s) ≡ false
pieces_some [] = refl
pieces_some (c ∷ cs) =
    let some : (ws : List (List ℕ)) → wordless ws ≡ false → wordless (lengthened c ws) ≡ false = λ ws e. lengthened_some c ws e in
    elim (eqb c 32) as (λ b. wordless (cond b ([] ∷ pieces cs) (lengthened c (pieces cs))) ≡ false) [ true ↦ refl | false ↦ some (pieces cs) (pieces_some cs) ]
  where
    lengthened_some : (c : ℕ) (ws : List (List ℕ)) → wordless ws ≡ false → wordless (lengthened c ws) ≡ false
    lengthened_some c [] e = e
    lengthened_some c (w ∷ ws) e = refl

pub cut_at_blank : (s : List ℕ) → before_blank s < length s
    → pieces s ≡ take (before_blank s) s ∷ pieces (drop (suc (before_blank s)) s)
cut_at_blank [] h = absurd (omega arith)
cut_at_blank (c ∷ cs) h =
    (elim (eqb c 32) as (λ b. cond b 0 (suc (before_blank cs)) < suc (length cs)
    → cond b ([] ∷ pieces cs) (lengthened c (pieces cs)) ≡ take (cond b 0 (suc (before_blank cs))) (c ∷ cs) ∷ pieces (drop (suc (cond b 0 (suc (before_blank cs)))) (c ∷ cs))) [
      | true ↦ λ k. refl
      | false ↦ λ k. ap (lengthened c) (cut_at_blank cs (omega arith))
    ]) h

pub cut_at_end : (s : List ℕ) → length s ≤ before_blank s → pieces s ≡ s ∷ []
cut_at_end [] h = refl
cut_at_end (c ∷ cs) h =
    (elim (eqb c 32) as (λ b. suc (length cs) ≤ cond b 0 (suc (before_blank cs)) → cond b ([] ∷ pieces cs) (lengthened c (pieces cs)) ≡ (c ∷ cs) ∷ []) [
      | true ↦ λ k. absurd (omega arith)
      | false ↦ λ k. ap (lengthened c) (cut_at_end cs (omega arith))
    ]) h

-- whether there are words to come
pub unread_none : (o : Option (Bor (List ℕ))) (b : Bool) → is_some o ≡ not b → b ≡ wordless (unread o)
unread_none None true e = refl
unread_none None false e = e
unread_none (Some text) true e = e ∙ sym (pieces_some text.now)
unread_none (Some text) false e = sym (pieces_some text.now)

-- the words to come, cut where the first blank is
pub first_cut : (o : Option (Bor (List ℕ))) (text : Bor (List ℕ)) (end : Option ℕ) → o ≡ Some text → end ≡ position (λ c. eqb c 32) text.now
    → MatchOption end (unread o ≡ text.now ∷ []) (λ end. unread o ≡ take end text.now ∷ pieces (drop (end + 1) text.now))
first_cut o text end e p =
    let s = text.now in
    let same : before_blank s ≡ position_or_len (λ c. eqb c 32) s = is_position_or_len before_blank (λ c. eqb c 32) refl (λ c cs. (let one : suc (before_blank cs) ≡ 1 + before_blank cs = omega arith in ap (cond (eqb c 32) 0) one)) s in
    subst (λ r. MatchOption r (unread o ≡ s ∷ []) (λ end. unread o ≡ take end s ∷ pieces (drop (end + 1) s))) (sym p)
    (cond_both (ltb (position_or_len (λ c. eqb c 32) s) (length s)) (Some (position_or_len (λ c. eqb c 32) s)) None
    (λ r. MatchOption r (unread o ≡ s ∷ []) (λ end. unread o ≡ take end s ∷ pieces (drop (end + 1) s)))
    (λ t.
    let within = ltb-true _ _ t in
    subst (λ (n : ℕ). unread o ≡ take n s ∷ pieces (drop (n + 1) s)) same
    (ap unread e ∙ cut_at_blank s (omega arith)
    ∙ (let next : suc (before_blank s) ≡ before_blank s + 1 = omega arith in ap (λ (n : ℕ). take (before_blank s) s ∷ pieces (drop n s)) next)))
    (λ t. ap unread e ∙ cut_at_end s (omega (arith, ltb-false _ _ t))))
