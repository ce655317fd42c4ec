-- Fields of two and of four bytes, the high byte first.
use Rattle.std.specs.Prelude.{ℕ, ◌+◌, ◌*◌, ◌/◌, ◌%◌, ◌<◌, List, [], ◌∷◌, slice_index}

-- the number in the two bytes from place i on
abbrev pub two : List ℕ → ℕ → ℕ
two f i = slice_index f i * 256 + slice_index f (i + 1)

-- the number in the four bytes from place i on
abbrev pub four : List ℕ → ℕ → ℕ
four f i = slice_index f i * 16777216 + slice_index f (i + 1) * 65536 + slice_index f (i + 2) * 256 + slice_index f (i + 3)

-- a number below 2^16 as two bytes
abbrev pub bytes_of_two : ℕ → List ℕ
bytes_of_two n = n / 256 % 256 ∷ n % 256 ∷ []

-- a number below 2^32 as four bytes
abbrev pub bytes_of_four : ℕ → List ℕ
bytes_of_four n = n / 16777216 % 256 ∷ n / 65536 % 256 ∷ n / 256 % 256 ∷ n % 256 ∷ []

-- every number of the list is a byte
abbrev pub Bytes : List ℕ → Type 0
Bytes xs = (i : ℕ) → slice_index xs i < 256
