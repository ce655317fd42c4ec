-- Numbers read back from their digits, and are all that is read.
use Rattle.std.proofs.Common.{◌≡◌, ℕ, ◌+◌, ◌*◌, ◌/◌, ◌%◌, ◌^◌, ◌<◌, cond, eqb, List, [], ◌∷◌, ◌++◌, length, get_or, take, drop, IfSome, Some, None, decimal, Option, sym, refl, ap, ◌∙◌, ap₂, ⊎_elim, arith}
use Rattle.std.proofs.lemmas.List.{take-append-drop, length-take-le, length-drop}
use Rattle.std.proofs.lemmas.Bool.{cond_both, cond-false, cases_eq, ne_eqb, eqb-true, eqb-false}
use Rattle.std.proofs.lemmas.Bool.Decides.{nat_tests}
use Rattle.std.specs.Option.{option_map}
use Rattle.text.specs.Digits.{hex_digit, hex_byte, hex_short, hex_long, digit_in, both, paired, byte_in, short_in, long_in, number_in}
use Rattle.text.specs.Texts.{Reads}
use Rattle.text.proofs.Numbers.{number_back, number_only}

-- what is read back from every text, and is all that is read, is said by the texts
pub reads_from : {X : Type 0} (text : X → List ℕ) (fits : X → Type 0) (bytes : List ℕ) (in_text : List ℕ → Option X) (o : Option X) → o ≡ in_text bytes
    → ((x : X) → fits x → in_text (text x) ≡ Some x) → ((x : X) → in_text bytes ≡ Some x → (text x ≡ bytes) × fits x) → Reads text fits bytes o
reads_from text fits bytes in_text o e back only = record {
  every = λ x h t. e ∙ ap in_text (sym t) ∙ back x h;
  only = (elim o as (λ p. p ≡ in_text bytes → IfSome p (λ x. (text x ≡ bytes) × fits x)) [ None ↦ λ k. tt | Some x ↦ λ k. only x (sym k) ]) e;
}

digit_back : (d : ℕ) → d < 16 → digit_in (hex_digit d) ≡ Some d
digit_back d h = grind (arith, nat_tests)

digit_only : (c d : ℕ) → digit_in c ≡ Some d → (hex_digit d ≡ c) × (d < 16)
digit_only c d e = (grind (arith, nat_tests), grind (arith, nat_tests))

-- two parts that are there, and what they make
both_only : (k : ℕ) (h l : Option ℕ) (n : ℕ) → both k h l ≡ Some n → (x : ℕ) × (y : ℕ) × (h ≡ Some x) × (l ≡ Some y) × (x * k + y ≡ n)
both_only k None l n e = let z : ◌≡◌ {A = ℕ} 0 1 = cc in absurd (omega arith)
both_only k (Some x) None n e = let z : ◌≡◌ {A = ℕ} 0 1 = cc in absurd (omega arith)
both_only k (Some x) (Some y) n e = (x, y, refl, refl, cc)

-- no number without its low part
low_none : (k : ℕ) (h : Option ℕ) → both k h None ≡ None
low_none k None = refl
low_none k (Some x) = refl

-- two numbers that were read of the halves of a word are the number that the word stands for, where only words of so many digits are read
halves_joined : (k n : ℕ) (in_half : List ℕ → Option ℕ) → ((w : List ℕ) → (length w ≡ n → ⊥) → in_half w ≡ None)
    → (w : List ℕ) (r : Option (ℕ × ℕ)) → r ≡ paired (in_half (take (length w / 2) w)) (in_half (drop (length w / 2) w))
    → option_map (λ p. p.0 * k + p.1) r ≡ cond (eqb (length w) (n + n)) (both k (in_half (take n w)) (in_half (drop n w))) None
halves_joined k n in_half none w r e =
    let h : ℕ = length w / 2 in
    ap (option_map (λ p. p.0 * k + p.1)) e ∙ joined (in_half (take h w)) (in_half (drop h w))
    ∙ cond_both (eqb (length w) (n + n)) (both k (in_half (take n w)) (in_half (drop n w))) None
    (λ r. both k (in_half (take h w)) (in_half (drop h w)) ≡ r)
    (λ t.
    let whole = eqb-true _ _ t in
    (let half : h ≡ n = omega arith in ap (λ (m : ℕ). both k (in_half (take m w)) (in_half (drop m w))) half))
    (λ t.
    let other = eqb-false _ _ t in
    ⊎_elim
    (λ same. ap (both k (in_half (take h w))) (none (drop h w) (λ e. other (omega (arith, length-drop h w, e)))) ∙ low_none k (in_half (take h w)))
    (λ apart. ap (λ o. both k o (in_half (drop h w))) (none (take h w) (λ e. apart (omega (arith, length-take-le h w (omega arith), e)))))
    (cases_eq h n))
  where
    joined : (h l : Option ℕ) → option_map (λ p. p.0 * k + p.1) (paired h l) ≡ both k h l
    joined None l = refl
    joined (Some x) None = refl
    joined (Some x) (Some y) = refl

byte_none : (w : List ℕ) → (length w ≡ 2 → ⊥) → byte_in w ≡ None
byte_none w h = cond-false _ _ _ (ne_eqb (length w) 2 h)

short_none : (w : List ℕ) → (length w ≡ 4 → ⊥) → short_in w ≡ None
short_none w h = cond-false _ _ _ (ne_eqb (length w) 4 h)

pub short_halves : (w : List ℕ) (r : Option (ℕ × ℕ)) → r ≡ paired (byte_in (take (length w / 2) w)) (byte_in (drop (length w / 2) w))
    → option_map (λ p. p.0 * 256 + p.1) r ≡ short_in w
short_halves = halves_joined 256 2 byte_in byte_none

pub long_halves : (w : List ℕ) (r : Option (ℕ × ℕ)) → r ≡ paired (short_in (take (length w / 2) w)) (short_in (drop (length w / 2) w))
    → option_map (λ p. p.0 * 65536 + p.1) r ≡ long_in w
long_halves = halves_joined 65536 4 short_in short_none

-- what was read of a word of so many bytes
read_some : (w : List ℕ) (k : ℕ) (o : Option ℕ) (n : ℕ) → cond (eqb (length w) k) o None ≡ Some n → (length w ≡ k) × (o ≡ Some n)
read_some w k o n e = (grind (arith, nat_tests), grind (arith, nat_tests))

two_bytes : (w : List ℕ) → length w ≡ 2 → get_or w 0 0 ∷ get_or w 1 0 ∷ [] ≡ w
two_bytes [] h = absurd (omega arith)
two_bytes (a ∷ []) h = absurd (omega arith)
two_bytes (a ∷ b ∷ []) h = refl
two_bytes (a ∷ b ∷ c ∷ w) h = absurd (omega arith)

pub byte_back : (b : ℕ) → b < 256 → byte_in (hex_byte b) ≡ Some b
byte_back b h =
    ap₂ (both 16) (digit_back (b / 16) (omega arith)) (digit_back (b % 16) (omega arith))
    ∙ (let e : b / 16 * 16 + b % 16 ≡ b = omega arith in ap Some e)

pub byte_only : (w : List ℕ) (b : ℕ) → byte_in w ≡ Some b → (hex_byte b ≡ w) × (b < 256)
byte_only w b e =
    let r = read_some w 2 (both 16 (digit_in (get_or w 0 0)) (digit_in (get_or w 1 0))) b e in
    let p = both_only 16 (digit_in (get_or w 0 0)) (digit_in (get_or w 1 0)) b r.1 in
    let high = digit_only (get_or w 0 0) p.0 p.2 in
    let low = digit_only (get_or w 1 0) p.1 p.3 in
    let h : b / 16 ≡ p.0 = omega arith in
    let l : b % 16 ≡ p.1 = omega arith in (
      ap₂ (λ x y. x ∷ y ∷ []) (ap hex_digit h ∙ high.0) (ap hex_digit l ∙ low.0) ∙ two_bytes w r.0,
      omega arith,
    )

pub short_back : (n : ℕ) → n < 65536 → short_in (hex_short n) ≡ Some n
short_back n h =
    ap₂ (both 256) (byte_back (n / 256) (omega arith)) (byte_back (n % 256) (omega arith))
    ∙ (let e : n / 256 * 256 + n % 256 ≡ n = omega arith in ap Some e)

pub short_only : (w : List ℕ) (n : ℕ) → short_in w ≡ Some n → (hex_short n ≡ w) × (n < 65536)
short_only w n e =
    let r = read_some w 4 (both 256 (byte_in (take 2 w)) (byte_in (drop 2 w))) n e in
    let p = both_only 256 (byte_in (take 2 w)) (byte_in (drop 2 w)) n r.1 in
    let high = byte_only (take 2 w) p.0 p.2 in
    let low = byte_only (drop 2 w) p.1 p.3 in
    let h : n / 256 ≡ p.0 = omega arith in
    let l : n % 256 ≡ p.1 = omega arith in (
      ap₂ (λ x y. x ++ y) (ap hex_byte h ∙ high.0) (ap hex_byte l ∙ low.0) ∙ take-append-drop 2 w,
      omega arith,
    )

pub long_back : (n : ℕ) → n < 4294967296 → long_in (hex_long n) ≡ Some n
long_back n h =
    ap₂ (both 65536) (short_back (n / 65536) (omega arith)) (short_back (n % 65536) (omega arith))
    ∙ (let e : n / 65536 * 65536 + n % 65536 ≡ n = omega arith in ap Some e)

pub long_only : (w : List ℕ) (n : ℕ) → long_in w ≡ Some n → (hex_long n ≡ w) × (n < 4294967296)
long_only w n e =
    let r = read_some w 8 (both 65536 (short_in (take 4 w)) (short_in (drop 4 w))) n e in
    let p = both_only 65536 (short_in (take 4 w)) (short_in (drop 4 w)) n r.1 in
    let high = short_only (take 4 w) p.0 p.2 in
    let low = short_only (drop 4 w) p.1 p.3 in
    let h : n / 65536 ≡ p.0 = omega arith in
    let l : n % 65536 ≡ p.1 = omega arith in (
      ap₂ (λ x y. x ++ y) (ap hex_short h ∙ high.0) (ap hex_short l ∙ low.0) ∙ take-append-drop 4 w,
      omega arith,
    )

pub byte_reads : (w : List ℕ) (o : Option ℕ) → o ≡ byte_in w → Reads hex_byte (λ n. n < 2 ^ 8) w o
byte_reads w o e = reads_from hex_byte (λ n. n < 2 ^ 8) w byte_in o e byte_back (byte_only w)

pub short_reads : (w : List ℕ) (o : Option ℕ) → o ≡ short_in w → Reads hex_short (λ n. n < 2 ^ 16) w o
short_reads w o e = reads_from hex_short (λ n. n < 2 ^ 16) w short_in o e short_back (short_only w)

pub long_reads : (w : List ℕ) (o : Option ℕ) → o ≡ long_in w → Reads hex_long (λ n. n < 2 ^ 32) w o
long_reads w o e = reads_from hex_long (λ n. n < 2 ^ 32) w long_in o e long_back (long_only w)

pub number_reads : (w : List ℕ) (o : Option ℕ) → o ≡ number_in w → Reads decimal (λ n. n < 2 ^ 32) w o
number_reads w o e = reads_from decimal (λ n. n < 2 ^ 32) w number_in o e number_back (number_only w)
