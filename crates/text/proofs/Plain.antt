-- No word of digits has a blank in it.
use Rattle.std.proofs.Common.{◌≡◌, ℕ, ◌^◌, ◌<◌, Bool, true, not, ◌&&◌, eqb, List, [], ◌∷◌, map, decimal, arith}
use Rattle.std.proofs.lemmas.Fmt.{digits_decimal}
use Rattle.std.proofs.ByRecursion.{All-append, All-from_get_or}
use Rattle.std.proofs.lemmas.Str.Parse.{not_in_digits}
use Rattle.std.proofs.lemmas.Bool.{and_parts, eqb-false, not-true}
use Rattle.std.proofs.lemmas.Bool.Decides.{nat_tests}
use Rattle.std.specs.List.{AllByRecursion}
use Rattle.text.specs.Digits.{hex_digit, hex_byte, hex_short, hex_long}
use Rattle.text.proofs.Numbers.{own}
use Rattle.text.specs.Lines.{Plain}

plain_digit : (d : ℕ) → hex_digit d ≡ 32 → ⊥
plain_digit d e = grind (arith, nat_tests)

pub plain_byte : (b : ℕ) → Plain (hex_byte b)
plain_byte b = (plain_digit _, (plain_digit _, tt))

pub plain_short : (n : ℕ) → Plain (hex_short n)
plain_short n = All-append (λ c. c ≡ 32 → ⊥) (hex_byte _) (hex_byte _) (plain_byte _) (plain_byte _)

pub plain_long : (n : ℕ) → Plain (hex_long n)
plain_long n = All-append (λ c. c ≡ 32 → ⊥) (hex_short _) (hex_short _) (plain_short _) (plain_short _)

pub plain_decimal : (n : ℕ) → n < 2 ^ 32 → Plain (decimal n)
plain_decimal n h =
    All-from_get_or (λ c. c ≡ 32 → ⊥) (decimal n) 0
    (λ i l e. not_in_digits own (decimal n) 32 (digits_decimal own n (omega arith)) (λ p. omega arith) i l e)

pub plain_bytes : (bs : List ℕ) → AllByRecursion Plain (map hex_byte bs)
plain_bytes [] = tt
plain_bytes (b ∷ bs) = (plain_byte b, plain_bytes bs)

-- a word that is written out: that it has no blank is computed
abbrev pub unblank : List ℕ → Bool
unblank [] = true
unblank (c ∷ cs) = not (eqb c 32) && unblank cs

pub plain_from : (w : List ℕ) → unblank w ≡ true → Plain w
plain_from [] e = tt
plain_from (c ∷ cs) e = let p = and_parts (not (eqb c 32)) (unblank cs) e in (eqb-false c 32 (not-true _ p.0), plain_from cs p.1)
