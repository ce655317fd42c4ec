-- Three operations on lists that the meaning of a flash is made of.
use Rattle.std.specs.Prelude.{ℕ, zero, suc, ◌%◌, ◌^◌, List, [], ◌∷◌}

-- `xs` with `ws` written over it from the place `at` on; what would pass the end of `xs` is left out.
abbrev pub overwritten : {A : Type 0} → ℕ → List A → List A → List A
overwritten zero [] xs = xs
overwritten zero (w ∷ ws) [] = []
overwritten zero (w ∷ ws) (x ∷ xs) = w ∷ overwritten zero ws xs
overwritten (suc n) ws [] = []
overwritten (suc n) ws (x ∷ xs) = x ∷ overwritten n ws xs

-- `ws` as exactly n words of 32 bits: each number by its low 32 bits, 0 where `ws` has no more, and
-- what is over left out.
abbrev pub as_words : ℕ → List ℕ → List ℕ
as_words zero ws = []
as_words (suc n) [] = 0 ∷ as_words n []
as_words (suc n) (w ∷ ws) = w % 2 ^ 32 ∷ as_words n ws

-- two lists joined place by place, as long as the shorter one
abbrev pub both : {A B C : Type 0} → (A → B → C) → List A → List B → List C
both f [] ys = []
both f (x ∷ xs) [] = []
both f (x ∷ xs) (y ∷ ys) = f x y ∷ both f xs ys
