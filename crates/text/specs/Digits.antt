-- Numbers as digits: hexadecimal in upper case, of a fixed width; and decimal with no leading zeros.
use Rattle.std.specs.Prelude.{ℕ, ◌+◌, ◌-◌, ◌*◌, ◌/◌, ◌%◌, Bool, cond, not, ◌&&◌, ◌||◌, List, [], ◌∷◌, ◌++◌, length, take, drop, Some, None, Option, ◌==◌, nat_le, nat_lt, slice_index}
use Rattle.std.specs.Str.{all_ascii_digits}

-- the digit of a number below 16
abbrev pub hex_digit : ℕ → ℕ
hex_digit d = cond (nat_lt d 10) (48 + d) (55 + d)

-- a byte as two digits
abbrev pub hex_byte : ℕ → List ℕ
hex_byte b = hex_digit (b / 16) ∷ hex_digit (b % 16) ∷ []

-- a number below 2^16 as four digits
abbrev pub hex_short : ℕ → List ℕ
hex_short n = hex_byte (n / 256) ++ hex_byte (n % 256)

-- a number below 2^32 as eight digits
abbrev pub hex_long : ℕ → List ℕ
hex_long n = hex_short (n / 65536) ++ hex_short (n % 65536)

-- the number below 16 that a digit stands for
abbrev pub digit_in : ℕ → Option ℕ
digit_in c =
    cond (nat_le 48 c && nat_le c 57) (Some (c - 48))
    (cond (nat_le 65 c && nat_le c 70) (Some (c - 55))
    None)

-- two numbers as one, the high part first, where both are there
abbrev pub both : ℕ → Option ℕ → Option ℕ → Option ℕ
both k None low = None
both k (Some h) None = None
both k (Some h) (Some l) = Some (h * k + l)

-- two things, where both are there
abbrev pub paired : {X : Type 0} → Option X → Option X → Option (X × X)
paired None low = None
paired (Some h) None = None
paired (Some h) (Some l) = Some (h, l)

-- the number that a word of two, four or eight digits stands for
abbrev pub byte_in : List ℕ → Option ℕ
byte_in w = cond (length w == 2) (both 16 (digit_in (slice_index w 0)) (digit_in (slice_index w 1))) None

abbrev pub short_in : List ℕ → Option ℕ
short_in w = cond (length w == 4) (both 256 (byte_in (take 2 w)) (byte_in (drop 2 w))) None

abbrev pub long_in : List ℕ → Option ℕ
long_in w = cond (length w == 8) (both 65536 (short_in (take 4 w)) (short_in (drop 4 w))) None

-- the number that decimal digits write behind the digits of n
abbrev pub number_after : ℕ → List ℕ → ℕ
number_after n [] = n
number_after n (c ∷ cs) = number_after (n * 10 + (c - 48)) cs

-- there is a digit, and the first is no 0, unless it stands alone
abbrev pub no_leading_zeros : List ℕ → Bool
no_leading_zeros w = nat_le 1 (length w) && (length w == 1 || not (slice_index w 0 == 48))

-- the number below 2^32 that a word of decimal digits stands for
abbrev pub number_in : List ℕ → Option ℕ
number_in w =
    cond (all_ascii_digits w && (no_leading_zeros w && nat_lt (number_after 0 w) 4294967296))
    (Some (number_after 0 w))
    None

-- the same, at most so much
abbrev pub up_to : ℕ → Option ℕ → Option ℕ
up_to most None = None
up_to most (Some n) = cond (nat_le n most) (Some n) None

abbrev pub number_up_to : ℕ → List ℕ → Option ℕ
number_up_to most w = up_to most (number_in w)
