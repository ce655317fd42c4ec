-- Two lists joined place by place: what a change of both does.
use Rattle.std.proofs.Common.{◌≡◌, ℕ, zero, suc, ◌-◌, ◌<◌, min, List, [], ◌∷◌, map, length, get_or, take, set, replicate, sym, refl, ap, ◌∙◌, arith}
use Rattle.std.proofs.Math.ListN.{get_or-map}
use Rattle.std.proofs.lemmas.List.{get_or-take, length-map}
use Rattle.flash_kinds.specs.declared.record.PageRecord.{PageRecord}
use Rattle.flash.specs.Lists.{both, overwritten}
use Rattle.flash_kinds.specs.Tables.{left_of, once_more, no_record}
use Rattle.flash_kinds.proofs.Changes.{lefts_once_more}

module _ (f : ℕ → ℕ → ℕ) where
  pub both_set : (xs ys : List ℕ) (i x y : ℕ) → both f (set xs i x) (set ys i y) ≡ set (both f xs ys) i (f x y)
  both_set [] ys i x y = refl
  both_set (a ∷ xs) [] zero x y = refl
  both_set (a ∷ xs) [] (suc i) x y = refl
  both_set (a ∷ xs) (b ∷ ys) zero x y = refl
  both_set (a ∷ xs) (b ∷ ys) (suc i) x y = ap (λ zs. f a b ∷ zs) (both_set xs ys i x y)

  pub both_filled : (n k x y : ℕ) (xs ys : List ℕ) →
      both f (overwritten n (replicate k x) xs) (overwritten n (replicate k y) ys)
      ≡ overwritten n (replicate k (f x y)) (both f xs ys)
  both_filled zero zero x y xs ys = refl
  both_filled zero (suc k) x y [] ys = refl
  both_filled zero (suc k) x y (a ∷ xs) [] = refl
  both_filled zero (suc k) x y (a ∷ xs) (b ∷ ys) = ap (λ zs. f x y ∷ zs) (both_filled zero k x y xs ys)
  both_filled (suc n) k x y [] ys = refl
  both_filled (suc n) k x y (a ∷ xs) [] = refl
  both_filled (suc n) k x y (a ∷ xs) (b ∷ ys) = ap (λ zs. f a b ∷ zs) (both_filled n k x y xs ys)

  pub get_or_both : (xs ys : List ℕ) (i : ℕ) → i < length xs → i < length ys →
      get_or (both f xs ys) i 0 ≡ f (get_or xs i 0) (get_or ys i 0)
  get_or_both [] ys i h k = absurd (omega arith)
  get_or_both (x ∷ xs) [] i h k = absurd (omega arith)
  get_or_both (x ∷ xs) (y ∷ ys) zero h k = refl
  get_or_both (x ∷ xs) (y ∷ ys) (suc i) h k = get_or_both xs ys i (omega arith) (omega arith)

-- the smaller of the erases left of a page of the first n, of two tables that have it
pub least_within : (n : ℕ) (ls hs : List PageRecord) (p : ℕ) → p < n → p < length ls → p < length hs →
    get_or (take n (both min (map left_of ls) (map left_of hs))) p 0
    ≡ min (left_of (get_or ls p no_record)) (left_of (get_or hs p no_record))
least_within n ls hs p h l k =
    let has_low : p < length (map left_of ls) = simp length-map l in
    let has_high : p < length (map left_of hs) = simp length-map k in
    get_or-take n (both min (map left_of ls) (map left_of hs)) p 0 h
    ∙ get_or_both min (map left_of ls) (map left_of hs) p has_low has_high ∙ (λ j. min (get_or-map left_of ls p no_record j) (get_or-map left_of hs p no_record j))

-- the smaller of the erases left falls by one where each table counts one more erase
pub least_less : (ls ls' hs hs' : List PageRecord) (p : ℕ) → p < length ls → p < length hs →
    ls' ≡ set ls p (once_more (get_or ls p no_record)) → hs' ≡ set hs p (once_more (get_or hs p no_record)) →
    both min (map left_of ls') (map left_of hs')
    ≡ set (both min (map left_of ls) (map left_of hs)) p (get_or (both min (map left_of ls) (map left_of hs)) p 0 - 1)
least_less ls ls' hs hs' p l k el eh =
    let xs = map left_of ls in
    let ys = map left_of hs in
    let has_low : p < length xs = simp length-map l in
    let has_high : p < length ys = simp length-map k in
    let less : min (get_or xs p 0 - 1) (get_or ys p 0 - 1) ≡ min (get_or xs p 0) (get_or ys p 0) - 1 = omega arith in
    (λ j. both min (lefts_once_more ls ls' p el j) (lefts_once_more hs hs' p eh j))
    ∙ both_set min xs ys p _ _
    ∙ ap (λ n. set (both min xs ys) p n) (less ∙ ap (λ n. n - 1) (sym (get_or_both min xs ys p has_low has_high)))
