-- A list with another written over it from a place on. No lemma asks that the place lies within the list.
use Rattle.std.proofs.Common.{◌≡◌, ℕ, zero, suc, ◌+◌, ◌-◌, ◌<◌, ◌≤◌, min, List, [], ◌∷◌, length, get_or, take, drop, replicate, sym, refl, ap, ◌∙◌, suc-add, zero-add, arith}
use Rattle.std.proofs.lemmas.List.{length-replicate, length-drop, length-take-le, take_all}
use borrow.Rule.Slice.PartMut.{put_mid}
use Rattle.flash.specs.Lists.{overwritten}

module _ {A : Type 0} where
  -- ws put in the place of as many elements that are there
  put_overwritten : (n : ℕ) (ws xs : List A) → n + length ws ≤ length xs →
      put_mid n (length ws) xs ws ≡ overwritten n ws xs
  put_overwritten zero [] xs h = refl
  put_overwritten zero (w ∷ ws) [] h = absurd (omega arith)
  put_overwritten zero (w ∷ ws) (x ∷ xs) h = ap (λ ys. w ∷ ys) (put_overwritten zero ws xs (omega arith))
  put_overwritten (suc n) ws [] h = absurd (omega arith)
  put_overwritten (suc n) ws (x ∷ xs) h = ap (λ ys. x ∷ ys) (put_overwritten n ws xs (omega arith))

  -- a part of a list, m elements long, that was filled with y
  pub put_filled : (n k m : ℕ) (xs ys : List A) (y : A) → k ≡ m → ys ≡ replicate (length (take k (drop n xs))) y →
      n + m ≤ length xs → put_mid n k xs ys ≡ overwritten n (replicate m y) xs
  put_filled n k m xs ys y e f h =
      let has : m ≤ length (drop n xs) = omega (arith, length-drop n xs) in
      let long : length (take k (drop n xs)) ≡ m = ap (λ i. length (take i (drop n xs))) e ∙ length-take-le m (drop n xs) has in
      let made = length-replicate m y in
      (λ j. put_mid n ((e ∙ sym made) j) xs ((f ∙ ap (λ i. replicate i y) long) j))
      ∙ put_overwritten n (replicate m y) xs (omega arith)

  -- only as many of ws count as there are places for, and no place past the end
  overwritten_cut : (n k : ℕ) (ws xs : List A) → k ≡ min (length ws) (length xs - n) →
      overwritten n (take k ws) xs ≡ overwritten n ws xs
  overwritten_cut zero k [] xs h = ap (λ vs. overwritten zero vs xs) (take_all k [] (omega arith))
  overwritten_cut zero zero (w ∷ ws) [] h = refl
  overwritten_cut zero (suc k) (w ∷ ws) [] h = refl
  overwritten_cut zero zero (w ∷ ws) (x ∷ xs) h = absurd (omega arith)
  overwritten_cut zero (suc k) (w ∷ ws) (x ∷ xs) h = ap (λ ys. w ∷ ys) (overwritten_cut zero k ws xs (omega arith))
  overwritten_cut (suc n) k ws [] h = refl
  overwritten_cut (suc n) k ws (x ∷ xs) h = ap (λ ys. x ∷ ys) (overwritten_cut n k ws xs (omega arith))

  overwritten_past : (s n : ℕ) (ws xs : List A) → s ≡ min n (length xs) → overwritten s ws xs ≡ overwritten n ws xs
  overwritten_past zero zero ws xs h = refl
  overwritten_past zero (suc n) [] [] h = refl
  overwritten_past zero (suc n) (w ∷ ws) [] h = refl
  overwritten_past zero (suc n) ws (x ∷ xs) h = absurd (omega arith)
  overwritten_past (suc s) zero ws xs h = absurd (omega arith)
  overwritten_past (suc s) (suc n) ws [] h = refl
  overwritten_past (suc s) (suc n) ws (x ∷ xs) h = ap (λ ys. x ∷ ys) (overwritten_past s n ws xs (omega arith))

  -- the first k of ws put in their places, where k is how many have one
  pub put_within : (s n m k : ℕ) (ws vs xs : List A) → s ≡ min n (length xs) → k ≡ min (length ws) (length xs - s) →
      m ≡ k → vs ≡ take k ws → put_mid s m xs vs ≡ overwritten n ws xs
  put_within s n m k ws vs xs e f h v =
      let made : length (take k ws) ≡ k = length-take-le k ws (omega arith) in
      (λ j. put_mid s ((h ∙ sym made) j) xs (v j))
      ∙ put_overwritten s (take k ws) xs (omega arith) ∙ overwritten_cut s k ws xs f ∙ overwritten_past s n ws xs e

  pub length_overwritten : (n : ℕ) (ws xs : List A) → length (overwritten n ws xs) ≡ length xs
  length_overwritten zero [] xs = refl
  length_overwritten zero (w ∷ ws) [] = refl
  length_overwritten zero (w ∷ ws) (x ∷ xs) = ap suc (length_overwritten zero ws xs)
  length_overwritten (suc n) ws [] = refl
  length_overwritten (suc n) ws (x ∷ xs) = ap suc (length_overwritten n ws xs)

  -- what lies beyond what is written stays
  pub drop_overwritten : (m n : ℕ) (ws xs : List A) → n + length ws ≤ m → drop m (overwritten n ws xs) ≡ drop m xs
  drop_overwritten m zero [] xs h = refl
  drop_overwritten m zero (w ∷ ws) [] h = refl
  drop_overwritten zero zero (w ∷ ws) (x ∷ xs) h = absurd (omega arith)
  drop_overwritten (suc m) zero (w ∷ ws) (x ∷ xs) h = drop_overwritten m zero ws xs (omega arith)
  drop_overwritten m (suc n) ws [] h = refl
  drop_overwritten zero (suc n) ws (x ∷ xs) h = absurd (omega arith)
  drop_overwritten (suc m) (suc n) ws (x ∷ xs) h = drop_overwritten m n ws xs (omega arith)

  pub get_or_overwritten_in : (n k : ℕ) (ws xs : List A) (d : A) → k < length ws → n + k < length xs →
      get_or (overwritten n ws xs) (n + k) d ≡ get_or ws k d
  get_or_overwritten_in zero k [] xs d h l = absurd (omega arith)
  get_or_overwritten_in zero k (w ∷ ws) [] d h l = absurd (omega arith)
  get_or_overwritten_in zero zero (w ∷ ws) (x ∷ xs) d h l = refl
  get_or_overwritten_in zero (suc k) (w ∷ ws) (x ∷ xs) d h l =
      let e = get_or_overwritten_in zero k ws xs d (omega arith) (omega arith) in
      rw zero-add (rw zero-add at e)
  get_or_overwritten_in (suc n) k ws [] d h l = absurd (omega arith)
  get_or_overwritten_in (suc n) k ws (x ∷ xs) d h l = rw suc-add (get_or_overwritten_in n k ws xs d h (omega arith))

  pub get_or_overwritten_out : (n i : ℕ) (ws xs : List A) (d : A) → ((n ≤ i) × (i < n + length ws) → ⊥) →
      get_or (overwritten n ws xs) i d ≡ get_or xs i d
  get_or_overwritten_out zero i [] xs d h = refl
  get_or_overwritten_out zero i (w ∷ ws) [] d h = refl
  get_or_overwritten_out zero zero (w ∷ ws) (x ∷ xs) d h = absurd (h (omega arith, omega arith))
  get_or_overwritten_out zero (suc i) (w ∷ ws) (x ∷ xs) d h =
      get_or_overwritten_out zero i ws xs d (λ k. h (omega arith, omega arith))
  get_or_overwritten_out (suc n) i ws [] d h = refl
  get_or_overwritten_out (suc n) zero ws (x ∷ xs) d h = refl
  get_or_overwritten_out (suc n) (suc i) ws (x ∷ xs) d h = get_or_overwritten_out n i ws xs d (λ k. h (omega arith, omega arith))
