-- What erasing a range of pages answers and leaves.
use Rattle.std.specs.Prelude.{◌≡◌, ℕ, zero, suc, ◌+◌, ◌*◌, ◌<◌, ◌≤◌, Some, None, Ok}
use Rattle.flash.specs.declared.ranges.Erased.{Erased}
use Rattle.flash.specs.Faults.{no_page, page_worn}
use Rattle.flash.specs.Meaning.{Meaning, blank}
use Rattle.flash.specs.Effects.{erase_case, erase_leaves, word_answer}

-- the flash after so many pages from p on were erased, up to the first refusal
abbrev pub erase_range_leaves : Meaning → ℕ → ℕ → Meaning
erase_range_leaves m p zero = m
erase_range_leaves m p (suc n) = erase_case m p m m (erase_range_leaves (erase_leaves m p) (p + 1) n)

-- what is answered, where k pages were erased before
abbrev pub erase_rest_answer : ℕ → Meaning → ℕ → ℕ → Erased
erase_rest_answer k m p zero = record { done = k; refused = None }
erase_rest_answer k m p (suc n) =
    erase_case m p
    (record { done = k; refused = Some (no_page p) })
    (record { done = k; refused = Some (page_worn p) })
    (erase_rest_answer (k + 1) (erase_leaves m p) (p + 1) n)

abbrev pub erase_range_answer : Meaning → ℕ → ℕ → Erased
erase_range_answer m p n = erase_rest_answer 0 m p n

-- Where no page was refused, every word of the range is erased.
abbrev pub RangeIsBlank : Erased → ℕ → ℕ → Meaning → Type 0
RangeIsBlank r first count m =
    r.refused ≡ None → (p k : ℕ) → first ≤ p → p < first + count → k < 128 → word_answer m (128 * p + k) ≡ Ok blank
