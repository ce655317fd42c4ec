-- Two lists of erases left, compared page by page.
use Rattle.std.proofs.Common.{◌≡◌, ◌≢◌, ℕ, ◌<◌, Bool, true, false, Decides, List, length, get_or, sym, refl, ap, ◌∙◌, subst, zero-add, arith}
use Rattle.std.specs.Bool.{MatchBool}
use Rattle.std.specs.List.{AllWithin, HoldsAt, range_with_len}
use Rattle.std.proofs.lemmas.List.{ext_get_or}
use Rattle.std.proofs.lemmas.List.FromFn.{get_or-range_with_len, length-range_with_len}

module _ (xs ys : List ℕ) (n : ℕ) where
  -- what a test of every page finds: that all are equal, or one that is not
  abbrev pub Tested : Bool → Type 0
  Tested r =
      MatchBool r (AllWithin (λ i. get_or xs i 0 ≡ get_or ys i 0) (range_with_len 0 n) 0 (length (range_with_len 0 n)))
      ((k : ℕ) × (k < length (range_with_len 0 n)) × HoldsAt (λ i. get_or xs i 0 ≢ get_or ys i 0) (range_with_len 0 n) k)

  pub tested_decides : (r : Bool) → length xs ≡ n → length ys ≡ n → Tested r → Decides r (xs ≡ ys)
  tested_decides true l k all = (
    λ e. ext_get_or 0 xs ys (l ∙ sym k) (λ i h.
        let same : i < n = omega arith in
        subst (λ (j : ℕ). get_or xs j 0 ≡ get_or ys j 0) (get_or-range_with_len 0 n i 0 same ∙ zero-add i) (all i 0 (omega arith) (omega (arith, length-range_with_len 0 n)))),
    λ e. refl,
  )
  tested_decides false l k some = (
    λ e. let z : ◌≡◌ {A = ℕ} 0 1 = cc in absurd (omega arith),
    λ e. absurd (some.2 0 (ap (λ zs. get_or zs (get_or (range_with_len 0 n) some.0 0) 0) e)),
  )
