-- The laws of the register: it respects exclusive or, so what shifts do to it is known by what they do to single bits;
-- and stretches of bytes join.
-- Assumes nothing.
use Rattle.std.proofs.Common.{◌≡◌, ℕ, zero, suc, ◌+◌, ◌-◌, ◌*◌, ◌/◌, ◌%◌, ◌^◌, ◌<◌, ◌≤◌, List, [], ◌∷◌, ◌++◌, length, get_or, drop, sym, refl, ap, ◌∙◌, mod-lt, zero-lt-suc, arith}
use lib.Bits.{bit_xor, xor_mod}
use Rattle.std.proofs.lemmas.List.{at_drop_more, at_drop_all}
use Rattle.checksum.specs.Crc.{step, steps, feed, feeds, StretchesJoin}
use Rattle.checksum.proofs.Linear.{Linear, sum_linear, shl_linear, shr_linear, compose_linear, same_linear, known}

-- ---- the register respects exclusive or

bit_times : (x y : ℕ) → x < 2 → y < 2 → bit_xor x y * 0x8408 ≡ bit_xor (x * 0x8408) (y * 0x8408)
bit_times zero y hx hy = refl
bit_times (suc zero) zero hx hy = refl
bit_times (suc zero) (suc zero) hx hy = refl
bit_times (suc zero) (suc (suc y)) hx hy = absurd (omega arith)
bit_times (suc (suc x)) y hx hy = absurd (omega arith)

polynomial_linear : Linear (λ s. s % 2 * 0x8408)
polynomial_linear a b =
    ap (λ (x : ℕ). x * 0x8408) (xor_mod a b 1)
    ∙ bit_times (a % 2) (b % 2) (mod-lt a (zero-lt-suc 1)) (mod-lt b (zero-lt-suc 1))

step_linear : Linear step
unfolding step
step_linear = sum_linear (λ s. s / 2) (λ s. s % 2 * 0x8408) (shr_linear 1) polynomial_linear

steps_linear : (k : ℕ) → Linear (steps k)
unfolding steps
steps_linear zero = same_linear
steps_linear (suc k) = compose_linear (steps k) step (steps_linear k) step_linear

-- ---- two bytes leave by shifts

-- a shift to the left in the register
abbrev pub up : ℕ → ℕ → ℕ
up k x = x * 2 ^ k % 2 ^ 16

-- the bits that leave, as the code has them
abbrev pub quotient : ℕ → ℕ
quotient x = bit_xor (bit_xor (bit_xor x (up 4 x)) (up 8 (bit_xor x (up 4 x)))) (up 11 x)

-- what is left of the register then, as the code has it
abbrev pub by_shifts : ℕ → ℕ
by_shifts x = bit_xor (bit_xor (quotient x) (quotient x / 2 ^ 5)) (quotient x / 2 ^ 12)

up_linear : (k : ℕ) → Linear (up k)
up_linear k = shl_linear 16 k

quotient_linear : Linear quotient
quotient_linear =
    let t : ℕ → ℕ = λ x. bit_xor x (up 4 x) in
    let lt : Linear t = sum_linear (λ x. x) (up 4) same_linear (up_linear 4) in
    sum_linear (λ x. bit_xor (t x) (up 8 (t x))) (up 11)
    (sum_linear t (λ x. up 8 (t x)) lt (compose_linear (up 8) t (up_linear 8) lt)) (up_linear 11)

by_shifts_linear : Linear by_shifts
by_shifts_linear =
    let q = quotient_linear in
    sum_linear (λ x. bit_xor (quotient x) (quotient x / 2 ^ 5)) (λ x. quotient x / 2 ^ 12)
    (sum_linear quotient (λ x. quotient x / 2 ^ 5) q (compose_linear (λ x. x / 2 ^ 5) quotient (shr_linear 5) q))
    (compose_linear (λ x. x / 2 ^ 12) quotient (shr_linear 12) q)

-- both sides respect exclusive or, and antt computes that they agree at the 16 single bits
pub two_bytes : (x : ℕ) → x < 2 ^ 16 → by_shifts x ≡ steps 16 x
unfolding steps step
two_bytes x h = known by_shifts (steps 16) by_shifts_linear (steps_linear 16) 16 tt x h

-- ---- one byte leaves as the second of two

second_linear : Linear (λ x. bit_xor (x / 2 ^ 8) (steps 16 (up 8 x)))
second_linear =
    sum_linear (λ x. x / 2 ^ 8) (λ x. steps 16 (up 8 x)) (shr_linear 8)
    (compose_linear (steps 16) (up 8) (steps_linear 16) (up_linear 8))

pub one_byte : (x : ℕ) → x < 2 ^ 16 → bit_xor (x / 2 ^ 8) (steps 16 (up 8 x)) ≡ steps 8 x
unfolding steps step
one_byte x h =
    known (λ x. bit_xor (x / 2 ^ 8) (steps 16 (up 8 x))) (steps 8) second_linear (steps_linear 8) 16 tt x h

-- ---- two bytes at a time

-- a byte that stands in the register's high half comes down whole
down : (b : ℕ) → b < 2 ^ 8 → steps 8 (up 8 b) ≡ b
unfolding steps step
down b h =
    known (λ b. steps 8 (up 8 b)) (λ b. b) (compose_linear (steps 8) (up 8) (steps_linear 8) (up_linear 8)) same_linear 8 tt b h

pub feed_two : (s a b : ℕ) → b < 2 ^ 8 → steps 16 (bit_xor (bit_xor s a) (up 8 b)) ≡ feed (feed s a) b
unfolding steps feed
feed_two s a b h =
    ap (steps 8) (steps_linear 8 (bit_xor s a) (up 8 b) ∙ ap (bit_xor (steps 8 (bit_xor s a))) (down b h))

-- ---- stretches join

feeds_append : (s : ℕ) (xs ys : List ℕ) → feeds s (xs ++ ys) ≡ feeds (feeds s xs) ys
unfolding feeds
feeds_append s [] ys = refl
feeds_append s (x ∷ xs) ys = feeds_append (feed s x) xs ys

pub joins : (s : ℕ) (xs : List ℕ) (r : ℕ) → r ≡ feeds s xs → StretchesJoin s xs r
joins s xs r e more = ap (λ (t : ℕ). feeds t more) e ∙ sym (feeds_append s xs more)

-- ---- what is left of a list, from the place i on

feeds_more : (s : ℕ) (xs : List ℕ) (i : ℕ) → i < length xs → feeds s (drop i xs) ≡ feeds (feed s (get_or xs i 0)) (drop (i + 1) xs)
unfolding feeds
feeds_more s xs i h = at_drop_more (feeds s) xs i 0 h

-- nothing is left
pub feeds_none : (s : ℕ) (xs : List ℕ) (i : ℕ) → length xs ≤ i → feeds s (drop i xs) ≡ s
unfolding feeds
feeds_none s xs i h = at_drop_all (feeds s) xs i h

-- the last byte is left
pub feeds_last : (s : ℕ) (xs : List ℕ) (i : ℕ) → i + 1 ≡ length xs → feeds s (drop i xs) ≡ feed s (get_or xs (length xs - 1) 0)
feeds_last s xs i h =
    let last : i ≡ length xs - 1 = omega arith in
    feeds_more s xs i (omega arith) ∙ feeds_none (feed s (get_or xs i 0)) xs (i + 1) (omega arith)
    ∙ ap (λ (k : ℕ). feed s (get_or xs k 0)) last

-- the pair at i goes in
pub feeds_pair : (s : ℕ) (xs : List ℕ) (i : ℕ) → i < length xs / 2
    → feeds s (drop (2 * i) xs) ≡ feeds (feed (feed s (get_or xs (2 * i) 0)) (get_or xs (2 * i + 1) 0)) (drop (2 * (i + 1)) xs)
feeds_pair s xs i h =
    let next : 2 * i + 1 + 1 ≡ 2 * (i + 1) = omega arith in
    feeds_more s xs (2 * i) (omega arith)
    ∙ feeds_more (feed s (get_or xs (2 * i) 0)) xs (2 * i + 1) (omega arith)
    ∙ ap (λ (k : ℕ). feeds (feed (feed s (get_or xs (2 * i) 0)) (get_or xs (2 * i + 1) 0)) (drop k xs)) next
