-- The words of a Write's bytes.
use Rattle.std.proofs.Common.{◌≡◌, ℕ, zero, suc, ◌+◌, ◌-◌, ◌*◌, ◌/◌, ◌<◌, ◌≤◌, List, [], ◌∷◌, ◌++◌, length, get_or, take, sym, refl, ap, ◌∙◌, arith}
use Rattle.std.proofs.lemmas.List.{get_or-append-add, get_or-take, length-take-le, ext_get_or}
use Rattle.areas.specs.Words.{word_at}
use Rattle.part.specs.Working.{words_from}

pub length_words : (bs : List ℕ) → length (words_from bs) ≡ length bs / 4
length_words [] = refl
length_words (a ∷ []) = refl
length_words (a ∷ b ∷ []) = refl
length_words (a ∷ b ∷ c ∷ []) = refl
length_words (a ∷ b ∷ c ∷ d ∷ bs) = omega (arith, length_words bs)

-- a word behind four bytes
word_behind : (a b c d : ℕ) (bs : List ℕ) (i : ℕ) → word_at (a ∷ b ∷ c ∷ d ∷ bs) (4 + i) ≡ word_at bs i
word_behind a b c d bs i =
    let q = a ∷ b ∷ c ∷ d ∷ [] in
    let p : (k : ℕ) → get_or (q ++ bs) (4 + i + k) 0 ≡ get_or bs (i + k) 0 =
    λ k. let e : 4 + i + k ≡ 4 + (i + k) = omega arith in ap (λ (n : ℕ). get_or (q ++ bs) n 0) e ∙ get_or-append-add q bs (i + k) 0 in
    omega (arith, get_or-append-add q bs i 0, p 1, p 2, p 3)

get_or_words : (bs : List ℕ) (k : ℕ) → k < length bs / 4 → get_or (words_from bs) k 0 ≡ word_at bs (4 * k)
get_or_words [] k h = absurd (omega arith)
get_or_words (a ∷ []) k h = absurd (omega arith)
get_or_words (a ∷ b ∷ []) k h = absurd (omega arith)
get_or_words (a ∷ b ∷ c ∷ []) k h = absurd (omega arith)
get_or_words (a ∷ b ∷ c ∷ d ∷ bs) zero h = refl
get_or_words (a ∷ b ∷ c ∷ d ∷ bs) (suc k) h =
    let e : 4 + 4 * k ≡ 4 * suc k = omega arith in
    get_or_words bs k (omega arith) ∙ sym (word_behind a b c d bs (4 * k)) ∙ ap (λ (n : ℕ). word_at (a ∷ b ∷ c ∷ d ∷ bs) n) e

-- words that were copied one by one
pub copied_words : (bs out : List ℕ) (n : ℕ) → n ≡ length bs / 4 → n ≤ length out → ((k : ℕ) → k < n → get_or out k 0 ≡ word_at bs (4 * k))
    → take (n - 0) out ≡ words_from bs
copied_words bs out n e l each =
    let z : n - 0 ≡ n = omega arith in
    ap (λ (x : ℕ). take x out) z
    ∙ ext_get_or 0 (take n out) (words_from bs) (length-take-le n out l ∙ e ∙ sym (length_words bs))
    (λ k h. let m : k < n = omega (arith, length-take-le n out l) in get_or-take n out k 0 m ∙ each k m ∙ sym (get_or_words bs k (omega arith)))
