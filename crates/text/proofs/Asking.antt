-- What a line asks for is read back from its text, and is all that is read: of any verbs, and of anything that a line can ask for.
use Rattle.std.proofs.Common.{◌≡◌, ℕ, zero, suc, ◌<◌, cond, find, List, [], ◌∷◌, map, get_or, Some, None, Option, sym, refl, ap, ◌∙◌, subst, ap₂, arith}
use Rattle.std.proofs.lemmas.Slice.Eq.{bytes_eq-Decides}
use Rattle.std.proofs.lemmas.Bool.{cond_both}
use Rattle.std.specs.Option.{option_map}
use Rattle.std.specs.Str.{bytes_eq}
use Rattle.text.specs.Digits.{hex_byte, byte_in}
use Rattle.text.specs.Grammar.{among, given, taken, ended, bytes_taken, asked_or_none, asked_by_verb, Spelling}
use Rattle.text.specs.Lines.{put_first, all_by, line_text, words_in}
use Rattle.text.specs.Texts.{Reads}
use Rattle.text.proofs.Separated.{words_back, words_only}
use Rattle.text.proofs.Spelled.{reads_from, byte_back, byte_only}

-- ---- the first word
pub among_only : {V : Type 0} (text : V → List ℕ) (vs : List V) (w : List ℕ) (v : V) → among text vs w ≡ Some v → text v ≡ w
among_only text [] w v e = let z : ◌≡◌ {A = ℕ} 0 1 = cc in absurd (omega arith)
among_only text (u ∷ us) w v e =
    cond_both (bytes_eq w (text u)) (Some u) (among text us w) (λ o. o ≡ Some v → text v ≡ w)
    (λ t k. let same : v ≡ u = cc in ap text same ∙ sym ((bytes_eq-Decides w (text u)).0 t))
    (λ t k. among_only text us w v k)
    e

-- the verb that is looked for is the first of them
pub among_found : {V : Type 0} (text : V → List ℕ) (vs : List V) (w : List ℕ) (o : Option V) → option_map (λ v. v) o ≡ find (λ v. bytes_eq w (text v)) vs → o ≡ among text vs w
among_found {V} text vs w o e = (elim o as (λ o. o ≡ option_map (λ v. v) o) [ None ↦ refl | Some v ↦ refl ]) ∙ e ∙ same vs
  where
    same : (vs : List V) → find (λ v. bytes_eq w (text v)) vs ≡ among text vs w
    same [] = refl
    same (v ∷ vs) = ap (cond (bytes_eq w (text v)) (Some v)) (same vs)

-- ---- the words behind it, forwards
pub bytes_back : (bs : List ℕ) → ((i : ℕ) → get_or bs i 0 < 256) → all_by byte_in (map hex_byte bs) ≡ Some bs
bytes_back [] h = refl
bytes_back (b ∷ bs) h = ap₂ put_first (byte_back b (h 0)) (bytes_back bs (λ i. h (suc i)))

pub given_back : {X A : Type 0} {o : Option X} {x : X} (next : X → List (List ℕ) → Option A) (ws : List (List ℕ)) → o ≡ Some x → given o next ws ≡ next x ws
given_back next ws e = ap (λ o. given o next ws) e

pub bytes_taken_back : {A : Type 0} (f : List ℕ → A) (bs : List ℕ) → ((i : ℕ) → get_or bs i 0 < 256) → bytes_taken f (map hex_byte bs) ≡ Some (f bs)
bytes_taken_back f bs h = ap (option_map f) (bytes_back bs h)

-- ---- and backwards
given_only : {X A : Type 0} (o : Option X) (next : X → List (List ℕ) → Option A) (ws : List (List ℕ)) (a : A) → given o next ws ≡ Some a
    → (x : X) × (o ≡ Some x) × (next x ws ≡ Some a)
given_only None next ws a e = let z : ◌≡◌ {A = ℕ} 0 1 = cc in absurd (omega arith)
given_only (Some x) next ws a e = (x, refl, e)

-- a first word, what was read of it, and what came of the words behind it
pub taken_only : {X A : Type 0} (p : List ℕ → Option X) (next : X → List (List ℕ) → Option A) (ws : List (List ℕ)) (a : A) → taken p next ws ≡ Some a
    → (w : List ℕ) × (vs : List (List ℕ)) × (x : X) × (w ∷ vs ≡ ws) × (p w ≡ Some x) × (next x vs ≡ Some a)
taken_only p next [] a e = let z : ◌≡◌ {A = ℕ} 0 1 = cc in absurd (omega arith)
taken_only p next (w ∷ vs) a e = let r = given_only (p w) next vs a e in (w, vs, r.0, refl, r.1, r.2)

pub ended_only : {A : Type 0} (b : A) (ws : List (List ℕ)) (a : A) → ended b ws ≡ Some a → ([] ≡ ws) × (b ≡ a)
ended_only b [] a e = (refl, cc)
ended_only b (w ∷ ws) a e = let z : ◌≡◌ {A = ℕ} 0 1 = cc in absurd (omega arith)

put_first_only : (o : Option ℕ) (p : Option (List ℕ)) (bs : List ℕ) → put_first o p ≡ Some bs
    → (x : ℕ) × (xs : List ℕ) × (o ≡ Some x) × (p ≡ Some xs) × (x ∷ xs ≡ bs)
put_first_only None p bs e = let z : ◌≡◌ {A = ℕ} 0 1 = cc in absurd (omega arith)
put_first_only (Some x) None bs e = let z : ◌≡◌ {A = ℕ} 0 1 = cc in absurd (omega arith)
put_first_only (Some x) (Some xs) bs e = (x, xs, refl, refl, cc)

byte_first : (b : ℕ) (bs : List ℕ) → b < 256 → ((i : ℕ) → get_or bs i 0 < 256) → (i : ℕ) → get_or (b ∷ bs) i 0 < 256
byte_first b bs h t zero = h
byte_first b bs h t (suc i) = t i

pub bytes_only : (ws : List (List ℕ)) (bs : List ℕ) → all_by byte_in ws ≡ Some bs → (map hex_byte bs ≡ ws) × ((i : ℕ) → get_or bs i 0 < 256)
bytes_only [] bs e =
    let same : [] ≡ bs = cc in
    (ap (map hex_byte) (sym same), subst (λ xs. (i : ℕ) → get_or xs i 0 < 256) same (λ i. omega arith))
bytes_only (w ∷ ws) bs e =
    let p = put_first_only (byte_in w) (all_by byte_in ws) bs e in
    let first = byte_only w p.0 p.2 in
    let rest = bytes_only ws p.1 p.3 in (
      ap (map hex_byte) (sym p.4) ∙ ap₂ (λ x xs. x ∷ xs) first.0 rest.0,
      subst (λ xs. (i : ℕ) → get_or xs i 0 < 256) p.4 (byte_first p.0 p.1 first.1 rest.1),
    )

mapped_only : {A : Type 0} (f : List ℕ → A) (o : Option (List ℕ)) (a : A) → option_map f o ≡ Some a → (bs : List ℕ) × (o ≡ Some bs) × (f bs ≡ a)
mapped_only f None a e = let z : ◌≡◌ {A = ℕ} 0 1 = cc in absurd (omega arith)
mapped_only f (Some bs) a e = (bs, refl, cc)

pub bytes_taken_only : {A : Type 0} (f : List ℕ → A) (ws : List (List ℕ)) (a : A) → bytes_taken f ws ≡ Some a
    → (bs : List ℕ) × (f bs ≡ a) × (map hex_byte bs ≡ ws) × ((i : ℕ) → get_or bs i 0 < 256)
bytes_taken_only f ws a e =
    let p = mapped_only f (all_by byte_in ws) a e in
    let q = bytes_only ws p.0 p.1 in
    (p.0, p.2, q.0, q.1)

-- ---- a whole line

words_some : {A : Type 0} (asked : List (List ℕ) → Option A) (o : Option (List (List ℕ))) (a : A) → asked_or_none asked o ≡ Some a
    → (ws : List (List ℕ)) × (o ≡ Some ws) × (asked ws ≡ Some a)
words_some asked None a e = let z : ◌≡◌ {A = ℕ} 0 1 = cc in absurd (omega arith)
words_some asked (Some ws) a e = (ws, refl, e)

-- what a line asks for is that with the line as its text
pub line_reads : {V A : Type 0} (verb_text : V → List ℕ) (verb_in : List ℕ → Option V) (asked_by : V → List (List ℕ) → Option A)
    (verb_for : A → V) (words_for : A → List (List ℕ)) (fits : A → Type 0)
    → Spelling verb_text verb_in asked_by verb_for words_for fits
    → (l : List ℕ) (o : Option A) → o ≡ asked_by_verb verb_in asked_by l
    → Reads (λ a. line_text (verb_text (verb_for a)) (words_for a)) fits l o
line_reads {V} {A} verb_text verb_in asked_by verb_for words_for fits s l o e =
    reads_from (λ a. line_text (verb_text (verb_for a)) (words_for a)) fits l (asked_by_verb verb_in asked_by) o e line_back line_only
  where
    line_back : (a : A) → fits a → asked_by_verb verb_in asked_by (line_text (verb_text (verb_for a)) (words_for a)) ≡ Some a
    line_back a h =
        ap (asked_or_none (taken verb_in asked_by)) (words_back (verb_text (verb_for a)) (words_for a) (s.plain_verb (verb_for a)) (s.plain_words a h))
        ∙ ap (λ o. given o asked_by (words_for a)) (s.verb_back (verb_for a)) ∙ s.asked_back a h

    line_only : (a : A) → asked_by_verb verb_in asked_by l ≡ Some a → (line_text (verb_text (verb_for a)) (words_for a) ≡ l) × fits a
    line_only a k =
        let p = words_some (taken verb_in asked_by) (words_in l) a k in
        let q = taken_only verb_in asked_by p.0 a p.2 in
        let r = s.asked_only q.2 q.1 a q.5 in
        let verb : verb_text (verb_for a) ≡ q.0 = ap verb_text r.0 ∙ s.verb_only q.0 q.2 q.4 in (
          ap₂ line_text verb r.1 ∙ words_only l q.0 q.1 (p.1 ∙ sym (ap Some q.3)),
          r.2,
        )
