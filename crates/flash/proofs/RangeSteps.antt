-- One page of a range, refused or erased; the words of an erased range.
use Rattle.std.proofs.Common.{◌≡◌, ℕ, zero, suc, ◌+◌, ◌*◌, ◌<◌, eqb, ltb, get_or, Some, Ok, Err, Result, sym, refl, ap, ◌∙◌, ⊎_elim, arith}
use Rattle.std.proofs.lemmas.Bool.{cond_both, cases_eq}
use Rattle.std.proofs.lemmas.Bool.Decides.{nat_tests}
use Rattle.flash.specs.declared.fault.FlashFault.{FlashFault}
use Rattle.flash.specs.declared.ranges.Erased.{Erased}
use Rattle.flash.specs.Meaning.{Meaning, Sound, blank}
use Rattle.flash.specs.Effects.{erase_page, written, word_answer, erase_answer, erase_write, erase_leaves}
use Rattle.flash.specs.Cuts.{new}
use Rattle.flash.specs.Laws.{NamesWord}
use Rattle.flash.specs.Ranges.{erase_range_answer, erase_rest_answer, erase_range_leaves, RangeIsBlank}
use Rattle.flash.proofs.Lawful.{cuts_keep_limits, cuts_alter_only_their_write, writes_are_read_back}

abbrev stopped : ℕ → FlashFault → Erased
stopped k f = record { done = k; refused = Some f }

module _ (m : Meaning) (p : ℕ) where
  pub refused_answer : (k n : ℕ) (f : FlashFault) → 0 < n → ◌≡◌ {A = Result (Unit {0}) FlashFault} (Err f) (erase_answer m p) →
      stopped k f ≡ erase_rest_answer k m p n
  refused_answer k zero f h e = absurd (omega arith)
  refused_answer k (suc n) f h e = grind (arith, nat_tests)

  pub refused_leaves : (n : ℕ) (f : FlashFault) → 0 < n → ◌≡◌ {A = Result (Unit {0}) FlashFault} (Err f) (erase_answer m p) →
      erase_leaves m p ≡ erase_range_leaves m p n
  refused_leaves zero f h e = absurd (omega arith)
  refused_leaves (suc n) f h e = grind (arith, nat_tests)

  -- q is the next page, and n' pages are left of the n
  module _ (m' : Meaning) (left : m' ≡ erase_leaves m p) (q n n' : ℕ) (next : q ≡ p + 1) (less : suc n' ≡ n)
      (served : ◌≡◌ {A = Result (Unit {0}) FlashFault} (Ok tt) (erase_answer m p)) where
    pub served_answer : (k : ℕ) → erase_rest_answer (k + 1) m' q n' ≡ erase_rest_answer k m p n
    served_answer k =
        let e : erase_rest_answer (k + 1) (erase_leaves m p) (p + 1) n' ≡ erase_rest_answer k m p (suc n') = grind (arith, nat_tests) in
        (λ j. erase_rest_answer (k + 1) (left j) (next j) n') ∙ e ∙ ap (λ x. erase_rest_answer k m p x) less

    pub served_leaves : erase_range_leaves m' q n' ≡ erase_range_leaves m p n
    served_leaves =
        let e : erase_range_leaves (erase_leaves m p) (p + 1) n' ≡ erase_range_leaves m p (suc n') = grind (arith, nat_tests) in
        (λ j. erase_range_leaves (left j) (next j) n') ∙ e ∙ ap (λ x. erase_range_leaves m p x) less

-- a word below an erased page, and so below an erased range, is read as before
erase_stays : (m : Meaning) (q i : ℕ) → i < 128 * q → word_answer (erase_leaves m q) i ≡ word_answer m i
erase_stays m q i h =
    let out : NamesWord (erase_page q) i → ⊥ = λ k. omega arith in
    let word = (cuts_alter_only_their_write new (erase_page q) m).words i out in
    let done : word_answer (written (erase_page q) m) i ≡ word_answer m i = grind (arith, nat_tests) in
    grind (arith, nat_tests)

range_stays : (n : ℕ) (m : Meaning) (q i : ℕ) → i < 128 * q → word_answer (erase_range_leaves m q n) i ≡ word_answer m i
range_stays zero m q i h = refl
range_stays (suc n) m q i h =
    let rest = range_stays n (erase_leaves m q) (q + 1) i (omega arith) in
    let first = erase_stays m q i h in
    cond_both (ltb q m.pages) _ _ (λ x. word_answer x i ≡ word_answer m i)
    (λ _. cond_both (eqb (get_or m.erases_left q 0) 0) _ _ (λ x. word_answer x i ≡ word_answer m i) (λ _. refl) (λ _. rest ∙ first))
    (λ _. refl)

-- the words of a range of which no page was refused
range_blank : (n k : ℕ) (m : Meaning) (q : ℕ) → Sound m → RangeIsBlank (erase_rest_answer k m q n) q n (erase_range_leaves m q n)
range_blank zero k m q s none p j l h lj = absurd (omega arith)
range_blank (suc n) k m q s none p j l h lj =
    let served : erase_answer m q ≡ Ok tt = grind (arith, nat_tests) in
    let rest = erase_range_leaves (erase_leaves m q) (q + 1) n in
    let goes : erase_range_leaves m q (suc n) ≡ rest = grind (arith, nat_tests) in
    let says : erase_rest_answer k m q (suc n) ≡ erase_rest_answer (k + 1) (erase_leaves m q) (q + 1) n = grind (arith, nat_tests) in
    let none' = sym (ap (λ x. x.refused) says) ∙ none in
    let sound = cuts_keep_limits new (erase_write m q) m s in
    let here : p ≡ q → word_answer rest (128 * p + j) ≡ Ok blank
    = λ e. ap (λ x. word_answer rest (128 * x + j)) e ∙ range_stays n (erase_leaves m q) (q + 1) (128 * q + j) (omega arith)
    ∙ writes_are_read_back.erase m q j s served lj in
    let later : (p ≡ q → ⊥) → word_answer rest (128 * p + j) ≡ Ok blank
    = λ e. range_blank n (k + 1) (erase_leaves m q) (q + 1) sound none' p j (omega (arith, e)) (omega arith) lj in
    ap (λ x. word_answer x (128 * p + j)) goes ∙ ⊎_elim here later (cases_eq p q)

pub blank_range : (m n : Meaning) (r : Erased) (first count : ℕ) → Sound m → r ≡ erase_range_answer m first count →
    n ≡ erase_range_leaves m first count → RangeIsBlank r first count n
blank_range m n r first count s says left none p j l h lj =
    ap (λ x. word_answer x (128 * p + j)) left
    ∙ range_blank count 0 m first s (sym (ap (λ x. x.refused) says) ∙ none) p j l h lj
