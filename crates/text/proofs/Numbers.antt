-- Decimal digits: the number that they write, and the digits of a number.
use Rattle.std.proofs.Common.{◌≡◌, ℕ, ◌+◌, ◌-◌, ◌*◌, ◌^◌, ◌<◌, ◌≤◌, true, false, ◌&&◌, ltb, List, [], ◌∷◌, length, get_or, drop, Some, None, decimal, Option, sym, ap, ◌∙◌, ⊎_elim, arith, rules}
use Rattle.std.proofs.lemmas.Fmt.{decimal-digits_value, decimal_digit, decimal_nonempty, first_decimal, digits_decimal, digits_value-decimal}
use Rattle.std.proofs.lemmas.List.{at_drop_more, at_drop_all}
use Rattle.std.proofs.lemmas.Str.Parse.{IsNumeralModel, numerals_by_fold}
use Rattle.std.proofs.lemmas.Bool.{and_parts, and_from, and_left, and_right, cond-true, cond-false, cond_both, cases_lt, le-leb, lt-ltb, ltb-true, le-ltb}
use Rattle.std.proofs.lemmas.Bool.Decides.{nat_tests}
use Rattle.std.specs.Char.{is_ascii_digit}
use Rattle.std.specs.Str.{all_ascii_digits}
use Rattle.text.specs.Digits.{number_after, number_in, no_leading_zeros, up_to, number_up_to}

-- the words of `Digits` say the same as those of std
pub own : IsNumeralModel (λ ds. all_ascii_digits ds ≡ true) (number_after 0)
own = numerals_by_fold _ (search rules) number_after (search rules)

-- a word with no leading zeros is what is written of its number
pub decimal_back : (w : List ℕ) → all_ascii_digits w ≡ true → no_leading_zeros w ≡ true → number_after 0 w < 2 ^ 32 → decimal (number_after 0 w) ≡ w
decimal_back w d l h = decimal-digits_value own w d (grind (arith, nat_tests)) (λ z. grind (arith, nat_tests)) (omega arith)

-- the ways in which a word is no number
pub no_digits : (w : List ℕ) → all_ascii_digits w ≡ false → number_in w ≡ None
no_digits w e = cond-false _ _ _ (and_left _ _ e)

too_large : (w : List ℕ) → 2 ^ 32 ≤ number_after 0 w → number_in w ≡ None
too_large w h = cond-false _ _ _ (and_right (all_ascii_digits w) _ (and_right (no_leading_zeros w) _ (le-ltb _ _ h)))

-- more digits make no smaller number, so one that is too large stays so
grows : (n : ℕ) (w : List ℕ) → n ≤ number_after n w
grows n [] = omega arith
grows n (c ∷ cs) = omega (arith, grows (n * 10 + (c - 48)) cs)

pub too_large_on : (w : List ℕ) (i v : ℕ) → i < length w → number_after v (drop i w) ≡ number_after 0 w → 2 ^ 32 ≤ v * 10 + (get_or w i 0 - 48)
    → None ≡ number_in w
too_large_on w i v within e h =
    sym (too_large w (omega (arith, at_drop_more (number_after v) w i 0 within, e, grows (v * 10 + (get_or w i 0 - 48)) (drop (i + 1) w))))

-- what a loop over the digits knows at a byte that is none, and at its end
pub digit_none : (w : List ℕ) (i : ℕ) → i < length w → is_ascii_digit (get_or w i 0) ≡ false → all_ascii_digits (drop i w) ≡ false
digit_none w i h e = at_drop_more all_ascii_digits w i 0 h ∙ ap (λ b. b && all_ascii_digits (drop (i + 1) w)) e

pub all_read : (w : List ℕ) (v i : ℕ) → length w ≤ i → all_ascii_digits (drop i w) ≡ all_ascii_digits w → number_after v (drop i w) ≡ number_after 0 w
    → (all_ascii_digits w ≡ true) × (v ≡ number_after 0 w)
all_read w v i h d n = (sym d ∙ at_drop_all all_ascii_digits w i h, sym (at_drop_all (number_after v) w i h) ∙ n)

pub is_number : (w : List ℕ) → all_ascii_digits w ≡ true → no_leading_zeros w ≡ true → number_after 0 w < 2 ^ 32 → number_in w ≡ Some (number_after 0 w)
is_number w d l h = cond-true _ _ _ (and_from _ _ d (and_from _ _ l (lt-ltb _ _ h)))

-- what is written of a number has no leading zeros
decimal_begins : (n : ℕ) → n < 2 ^ 32 → no_leading_zeros (decimal n) ≡ true
decimal_begins n h =
    let some = decimal_nonempty n (omega arith) in
    ⊎_elim
    (λ few. ap no_leading_zeros (decimal_digit n few))
    (λ many. (let lead : 48 < get_or (decimal n) 0 0 = first_decimal n (omega arith) (omega arith) in grind (arith, nat_tests)))
    (cases_lt n 10)

-- a number below 2^32 reads back, and is all that is read
pub number_back : (n : ℕ) → n < 2 ^ 32 → number_in (decimal n) ≡ Some n
number_back n h =
    let v = digits_value-decimal own n (omega arith) in
    is_number (decimal n) (digits_decimal own n (omega arith)) (decimal_begins n h) (omega arith) ∙ ap Some v

pub number_only : (w : List ℕ) (n : ℕ) → number_in w ≡ Some n → (decimal n ≡ w) × (n < 2 ^ 32)
number_only w n e =
    cond_both (all_ascii_digits w && (no_leading_zeros w && ltb (number_after 0 w) 4294967296)) (Some (number_after 0 w)) None (λ x. x ≡ Some n → (decimal n ≡ w) × (n < 2 ^ 32))
    (λ t k.
    let p = and_parts (all_ascii_digits w) _ t in
    let q = and_parts (no_leading_zeros w) _ p.1 in
    let small = ltb-true (number_after 0 w) 4294967296 q.1 in
    let same : n ≡ number_after 0 w = cc in
    (ap decimal same ∙ decimal_back w p.0 q.0 small, omega arith))
    (λ t k. let z : ◌≡◌ {A = ℕ} 0 1 = cc in absurd (omega arith))
    e

pub up_to_back : (most n : ℕ) → n ≤ most → n < 2 ^ 32 → number_up_to most (decimal n) ≡ Some n
up_to_back most n h k = ap (up_to most) (number_back n k) ∙ cond-true _ _ _ (le-leb n most h)

up_to_some : (most : ℕ) (o : Option ℕ) (n : ℕ) → up_to most o ≡ Some n → (o ≡ Some n) × (n ≤ most)
up_to_some most None n e = let z : ◌≡◌ {A = ℕ} 0 1 = cc in absurd (omega arith)
up_to_some most (Some m) n e = (grind (arith, nat_tests), grind (arith, nat_tests))

pub up_to_only : (most : ℕ) (w : List ℕ) (n : ℕ) → number_up_to most w ≡ Some n → (decimal n ≡ w) × (n ≤ most)
up_to_only most w n e =
    let p = up_to_some most (number_in w) n e in
    ((number_only w n p.0).0, p.1)
