-- Words with no blank in them, written with a blank between any two, are found again.
use Rattle.std.proofs.Common.{◌≡◌, ℕ, suc, ◌+◌, ◌-◌, ◌<◌, ◌≤◌, false, ◌&&◌, eqb, leb, List, [], ◌∷◌, ◌++◌, length, get_or, take, drop, Some, None, Option, sym, refl, ap, ◌∙◌, ap₂, arith}
use Rattle.std.proofs.lemmas.List.{append_assoc, append-nil, length-append, length-drop, take_at, take_all, take_more, drop_more, get_or_at, get_or-drop}
use Rattle.std.proofs.lemmas.Bool.{cond_both, cond-true, cond-false, ne_eqb, and_parts, and_from, eqb-true, leb-true, le-leb, eq-eqb}
use Rattle.std.specs.Option.{option_map}
use Rattle.std.specs.List.{AllByRecursion}
use Rattle.text.specs.Lines.{Plain, more_words, line_text, lengthened, pieces, inside, words_in, wordless}
use Rattle.text.proofs.Cuts.{pieces_some}

-- some words with a blank between any two
abbrev pub spaced : List (List ℕ) → List ℕ
spaced [] = []
spaced (w ∷ ws) = w ++ more_words ws

pieces_last : (w : List ℕ) → Plain w → pieces w ≡ w ∷ []
pieces_last [] p = refl
pieces_last (c ∷ cs) p = cond-false _ _ _ (ne_eqb c 32 p.0) ∙ ap (lengthened c) (pieces_last cs p.1)

pieces_first : (w s : List ℕ) → Plain w → pieces (w ++ (32 ∷ s)) ≡ w ∷ pieces s
pieces_first [] s p = refl
pieces_first (c ∷ cs) s p = cond-false _ _ _ (ne_eqb c 32 p.0) ∙ ap (lengthened c) (pieces_first cs s p.1)

pub pieces_spaced : (w : List ℕ) (ws : List (List ℕ)) → Plain w → AllByRecursion Plain ws → pieces (w ++ more_words ws) ≡ w ∷ ws
pieces_spaced w [] p q = ap pieces (append-nil w) ∙ pieces_last w p
pieces_spaced w (v ∷ ws) p q = pieces_first w (v ++ more_words ws) p ∙ ap (λ vs. w ∷ vs) (pieces_spaced v ws q.0 q.1)

more_spaced : (ws : List (List ℕ)) → wordless ws ≡ false → more_words ws ≡ 32 ∷ spaced ws
more_spaced [] e = let z : ◌≡◌ {A = ℕ} 0 1 = cc in absurd (omega arith)
more_spaced (w ∷ ws) e = refl

spaced_lengthened : (c : ℕ) (ws : List (List ℕ)) → wordless ws ≡ false → spaced (lengthened c ws) ≡ c ∷ spaced ws
spaced_lengthened c [] e = let z : ◌≡◌ {A = ℕ} 0 1 = cc in absurd (omega arith)
spaced_lengthened c (w ∷ ws) e = refl

pub spaced_pieces : (s : List ℕ) → spaced (pieces s) ≡ s
spaced_pieces [] = refl
spaced_pieces (c ∷ cs) =
    cond_both (eqb c 32) ([] ∷ pieces cs) (lengthened c (pieces cs)) (λ ws. spaced ws ≡ c ∷ cs)
    (λ e. more_spaced (pieces cs) (pieces_some cs) ∙ ap₂ (λ x xs. x ∷ xs) (sym (eqb-true c 32 e)) (spaced_pieces cs))
    (λ e. spaced_lengthened c (pieces cs) (pieces_some cs) ∙ ap (λ xs. c ∷ xs) (spaced_pieces cs))

-- what stands between the brackets
pub inside_back : (s : List ℕ) → inside (40 ∷ (s ++ (41 ∷ []))) ≡ Some s
inside_back s =
    let l = 40 ∷ (s ++ (41 ∷ [])) in
    let n : length (s ++ (41 ∷ [])) ≡ length s + 1 = length-append s (41 ∷ []) in
    let few : 2 ≤ length l = omega arith in
    let last : length l - 1 ≡ suc (length s) = omega arith in
    let end : get_or l (length l - 1) 0 ≡ 41 = ap (λ (k : ℕ). get_or l k 0) last ∙ get_or_at s 41 [] 0 (length s) refl in
    let between : length l - 2 ≡ length s = omega arith in
    cond-true _ _ _ (and_from _ _ (le-leb 2 (length l) few) (and_from _ _ (eq-eqb 40 40 refl) (eq-eqb (get_or l (length l - 1) 0) 41 end)))
    ∙ ap Some (ap (λ (k : ℕ). take k (s ++ (41 ∷ []))) between ∙ take_at s (41 ∷ []) (length s) refl)

bracketed : (l : List ℕ) → 2 ≤ length l → get_or l 0 0 ≡ 40 → get_or l (length l - 1) 0 ≡ 41 → 40 ∷ (take (length l - 2) (drop 1 l) ++ (41 ∷ [])) ≡ l
bracketed l h a b =
    let m : ℕ = length l - 2 in
    let whole : take (m + 1) (drop 1 l) ≡ drop 1 l = take_all (m + 1) (drop 1 l) (simp length-drop (omega arith)) in
    let within : m < length (drop 1 l) = simp length-drop (omega arith) in
    let last : 1 + m ≡ length l - 1 = omega arith in
    let end : get_or (drop 1 l) m 0 ≡ 41 = get_or-drop 1 l m 0 ∙ ap (λ (k : ℕ). get_or l k 0) last ∙ b in
    let rest : take m (drop 1 l) ++ (41 ∷ []) ≡ drop 1 l = sym (ap (λ c. take m (drop 1 l) ++ (c ∷ [])) end) ∙ sym (take_more (drop 1 l) m 0 within) ∙ whole in
    ap₂ (λ c cs. c ∷ cs) (sym a) rest ∙ sym (drop_more l 0 0 (omega arith))

pub inside_only : (l s : List ℕ) → inside l ≡ Some s → 40 ∷ (s ++ (41 ∷ [])) ≡ l
inside_only l s e =
    cond_both (leb 2 (length l) && (eqb (get_or l 0 0) 40 && eqb (get_or l (length l - 1) 0) 41)) (Some (take (length l - 2) (drop 1 l))) None
    (λ o. o ≡ Some s → 40 ∷ (s ++ (41 ∷ [])) ≡ l)
    (λ t k.
    let p = and_parts (leb 2 (length l)) _ t in
    let q = and_parts (eqb (get_or l 0 0) 40) _ p.1 in
    let same : s ≡ take (length l - 2) (drop 1 l) = cc in
    ap (λ x. 40 ∷ (x ++ (41 ∷ []))) same ∙ bracketed l (leb-true 2 (length l) p.0) (eqb-true _ 40 q.0) (eqb-true _ 41 q.1))
    (λ t k. let z : ◌≡◌ {A = ℕ} 0 1 = cc in absurd (omega arith))
    e

-- the words of a line's text are the words that it was made of, and no other line has them
pub words_back : (w : List ℕ) (ws : List (List ℕ)) → Plain w → AllByRecursion Plain ws → words_in (line_text w ws) ≡ Some (w ∷ ws)
words_back w ws p q =
    ap (λ s. words_in (40 ∷ s)) (sym (append_assoc w (more_words ws) (41 ∷ [])))
    ∙ ap (option_map pieces) (inside_back (w ++ more_words ws)) ∙ ap Some (pieces_spaced w ws p q)

some_pieces : (o : Option (List ℕ)) (ws : List (List ℕ)) → option_map pieces o ≡ Some ws → (s : List ℕ) × (o ≡ Some s) × (pieces s ≡ ws)
some_pieces None ws e = let z : ◌≡◌ {A = ℕ} 0 1 = cc in absurd (omega arith)
some_pieces (Some s) ws e = (s, refl, cc)

pub words_only : (l w : List ℕ) (ws : List (List ℕ)) → words_in l ≡ Some (w ∷ ws) → line_text w ws ≡ l
words_only l w ws e =
    let p = some_pieces (inside l) (w ∷ ws) e in
    let s = p.0 in
    let spread : w ++ more_words ws ≡ s = sym (ap spaced p.2) ∙ spaced_pieces s in
    sym (ap (λ x. 40 ∷ x) (append_assoc w (more_words ws) (41 ∷ []))) ∙ ap (λ x. 40 ∷ (x ++ (41 ∷ []))) spread ∙ inside_only l s p.1
