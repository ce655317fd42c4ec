-- Lists of words of 32 bits, and lists joined place by place.
use Rattle.std.specs.Prelude.{◌≡◌, ℕ, zero, suc, ◌%◌, ◌^◌, ◌<◌, ◌≤◌, min, List, [], ◌∷◌, length, slice_index, slice_set, refl}
use Rattle.std.proofs.Common.{ap, lit<, mod-lt, arith}
use Rattle.flash.specs.Lists.{overwritten, as_words, both}

pub length_as_words : (n : ℕ) (ws : List ℕ) → length (as_words n ws) ≡ n
length_as_words zero ws = refl
length_as_words (suc n) [] = ap suc (length_as_words n [])
length_as_words (suc n) (w ∷ ws) = ap suc (length_as_words n ws)

-- each of them, read at any place, has 32 bits
pub as_words_fit : (n : ℕ) (ws : List ℕ) (i : ℕ) → slice_index (as_words n ws) i < 2 ^ 32
as_words_fit zero ws i = lit< tt
as_words_fit (suc n) [] zero = lit< tt
as_words_fit (suc n) [] (suc i) = as_words_fit n [] i
as_words_fit (suc n) (w ∷ ws) zero = mod-lt w (lit< tt)
as_words_fit (suc n) (w ∷ ws) (suc i) = as_words_fit n ws i

pub get_or_as_words : (n : ℕ) (ws : List ℕ) (i : ℕ) → i < n → slice_index (as_words n ws) i ≡ slice_index ws i % 2 ^ 32
get_or_as_words zero ws i h = absurd (omega arith)
get_or_as_words (suc n) [] zero h = refl
get_or_as_words (suc n) [] (suc i) h = get_or_as_words n [] i (omega arith)
get_or_as_words (suc n) (w ∷ ws) zero h = refl
get_or_as_words (suc n) (w ∷ ws) (suc i) h = get_or_as_words n ws i (omega arith)

pub as_words_set : (n : ℕ) (ws : List ℕ) (i v : ℕ) → i < length ws →
    as_words n (slice_set ws i v) ≡ slice_set (as_words n ws) i (v % 2 ^ 32)
as_words_set zero ws i v h = refl
as_words_set (suc n) [] i v h = absurd (omega arith)
as_words_set (suc n) (w ∷ ws) zero v h = refl
as_words_set (suc n) (w ∷ ws) (suc i) v h = ap (λ xs. w % 2 ^ 32 ∷ xs) (as_words_set n ws i v (omega arith))

pub as_words_overwritten : (at : ℕ) (vs : List ℕ) (n : ℕ) (ws : List ℕ) → n ≤ length ws →
    as_words n (overwritten at vs ws) ≡ overwritten at (as_words (length vs) vs) (as_words n ws)
as_words_overwritten zero [] n ws h = refl
as_words_overwritten zero (v ∷ vs) zero ws h = refl
as_words_overwritten zero (v ∷ vs) (suc n) [] h = absurd (omega arith)
as_words_overwritten zero (v ∷ vs) (suc n) (w ∷ ws) h =
    ap (λ xs. v % 2 ^ 32 ∷ xs) (as_words_overwritten zero vs n ws (omega arith))
as_words_overwritten (suc at) vs zero ws h = refl
as_words_overwritten (suc at) vs (suc n) [] h = absurd (omega arith)
as_words_overwritten (suc at) vs (suc n) (w ∷ ws) h =
    ap (λ xs. w % 2 ^ 32 ∷ xs) (as_words_overwritten at vs n ws (omega arith))

pub length_both : {A B C : Type 0} (f : A → B → C) (xs : List A) (ys : List B) →
    length (both f xs ys) ≡ min (length xs) (length ys)
length_both f [] ys = omega arith
length_both f (x ∷ xs) [] = omega arith
length_both f (x ∷ xs) (y ∷ ys) = omega (arith, length_both f xs ys)
