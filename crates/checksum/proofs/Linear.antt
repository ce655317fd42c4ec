-- Functions that respect exclusive or are known by what they give at the powers of two.
-- Assumes nothing.
use Rattle.std.proofs.Common.{◌≡◌, ℕ, zero, suc, ◌*◌, ◌/◌, ◌%◌, ◌^◌, ◌<◌, Bool, true, false, ◌&&◌, T, eqb, sym, refl, ap, ◌∙◌, subst, ap₂, add-zero, mod-lt, mul_comm, div-lt_iff_lt-mul, one-mul, pow-suc, zero-mul, arith, eqb→eq, pow_pos}
use lib.Bits.{bit_xor, xor_assoc, xor_comm, xor_self, xor_shifted, xor_block, xor_mod, xor_shr}
use lib.Pow.{split}

-- the function respects exclusive or
abbrev pub Linear : (ℕ → ℕ) → Type 0
Linear f = (a b : ℕ) → f (bit_xor a b) ≡ bit_xor (f a) (f b)

-- exclusive or, regrouped
xor4 : (a b c d : ℕ) → bit_xor (bit_xor a b) (bit_xor c d) ≡ bit_xor (bit_xor a c) (bit_xor b d)
xor4 a b c d =
    xor_assoc a b (bit_xor c d)
    ∙ ap (bit_xor a) (sym (xor_assoc b c d) ∙ ap (λ (x : ℕ). bit_xor x d) (xor_comm b c) ∙ xor_assoc c b d)
    ∙ sym (xor_assoc a c (bit_xor b d))

pub same_linear : Linear (λ x. x)
same_linear a b = refl

-- one function after another
pub compose_linear : (f g : ℕ → ℕ) → Linear f → Linear g → Linear (λ x. f (g x))
compose_linear f g lf lg a b = ap f (lg a b) ∙ lf (g a) (g b)

-- the sum of two functions
pub sum_linear : (f g : ℕ → ℕ) → Linear f → Linear g → Linear (λ x. bit_xor (f x) (g x))
sum_linear f g lf lg a b = ap₂ bit_xor (lf a b) (lg a b) ∙ xor4 (f a) (f b) (g a) (g b)

-- a shift to the right
pub shr_linear : (k : ℕ) → Linear (λ x. x / 2 ^ k)
shr_linear k a b = xor_shr a b k

times_linear : (k : ℕ) → Linear (λ x. x * 2 ^ k)
times_linear k a b =
    sym
    (ap₂ bit_xor (sym (add-zero (a * 2 ^ k))) (sym (add-zero (b * 2 ^ k)))
    ∙ xor_block k a b 0 0 (pow_pos k) (pow_pos k) ∙ add-zero (bit_xor a b * 2 ^ k)
    )

-- a shift to the left, in a register of w bits
pub shl_linear : (w k : ℕ) → Linear (λ x. x * 2 ^ k % 2 ^ w)
shl_linear w k a b = ap (λ (x : ℕ). x % 2 ^ w) (times_linear k a b) ∙ xor_mod (a * 2 ^ k) (b * 2 ^ k) w

-- the two functions agree at the n lowest powers of two
abbrev pub agree : (ℕ → ℕ) → (ℕ → ℕ) → ℕ → Bool
agree f g zero = true
agree f g (suc n) = eqb (f (2 ^ n)) (g (2 ^ n)) && agree f g n

both : (a b : Bool) → T (a && b) → T a × T b
both true b t = (tt, t)
both false b t = absurd t

zero_to_zero : (f : ℕ → ℕ) → Linear f → f 0 ≡ 0
zero_to_zero f l = l 0 0 ∙ xor_self (f 0)

at_digit : (f g : ℕ → ℕ) → Linear f → Linear g → (n d : ℕ) → d < 2 → f (2 ^ n) ≡ g (2 ^ n) → f (d * 2 ^ n) ≡ g (d * 2 ^ n)
at_digit f g lf lg n zero h e = rw zero-mul (zero_to_zero f lf ∙ sym (zero_to_zero g lg))
at_digit f g lf lg n (suc zero) h e = rw one-mul e
at_digit f g lf lg n (suc (suc d)) h e = absurd (omega arith)

-- the number as its digit at n, and what is below
digit_and_rest : (n x : ℕ) → bit_xor (x / 2 ^ n * 2 ^ n) (x % 2 ^ n) ≡ x
digit_and_rest n x = xor_shifted (x / 2 ^ n) n (x % 2 ^ n) (mod-lt x (pow_pos n)) ∙ split x n

top_digit : (n x : ℕ) → x < 2 ^ suc n → x / 2 ^ n < 2
top_digit n x h = (div-lt_iff_lt-mul (pow_pos n)).1 (subst (λ (m : ℕ). x < m) (pow-suc 2 n ∙ mul_comm (2 ^ n) 2) h)

-- two linear functions that agree at the n lowest powers of two agree at all numbers of n bits
pub known : (f g : ℕ → ℕ) → Linear f → Linear g → (n : ℕ) → T (agree f g n) → (x : ℕ) → x < 2 ^ n → f x ≡ g x
known f g lf lg zero t x h =
    let e : x ≡ 0 = omega arith in rw e (zero_to_zero f lf ∙ sym (zero_to_zero g lg))
known f g lf lg (suc n) t x h =
    let ts = both (eqb (f (2 ^ n)) (g (2 ^ n))) (agree f g n) t in
    let high = at_digit f g lf lg n (x / 2 ^ n) (top_digit n x h) (eqb→eq (f (2 ^ n)) (g (2 ^ n)) ts.0) in
    let low = known f g lf lg n ts.1 (x % 2 ^ n) (mod-lt x (pow_pos n)) in
    ap f (sym (digit_and_rest n x)) ∙ lf (x / 2 ^ n * 2 ^ n) (x % 2 ^ n)
    ∙ ap₂ bit_xor high low
    ∙ sym (lg (x / 2 ^ n * 2 ^ n) (x % 2 ^ n)) ∙ ap g (digit_and_rest n x)
