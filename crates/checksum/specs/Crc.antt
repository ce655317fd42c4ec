-- CRC-16/IBM-SDLC (also known as CRC-16/X-25), bit by bit.
-- The register has 16 bits, and bits leave it at its low end. So the polynomial x^16 + x^12 + x^5 + 1
-- stands in it with its highest power lowest, without the x^16: 0x8408.
-- Assumes nothing.
use Rattle.std.specs.Prelude.{◌≡◌, ℕ, zero, suc, ◌*◌, ◌/◌, ◌%◌, List, [], ◌∷◌, ◌++◌, bit_xor}

-- One bit leaves the register; where it is 1, the polynomial is added to the rest.
unfoldable pub step : ℕ → ℕ
step s = bit_xor (s / 2) (s % 2 * 0x8408)

-- k bits leave.
unfoldable pub steps : ℕ → ℕ → ℕ
steps zero s = s
steps (suc k) s = steps k (step s)

-- A byte is added to the low end of the register, and its eight bits leave, the lowest first.
unfoldable pub feed : ℕ → ℕ → ℕ
feed s b = steps 8 (bit_xor s b)

-- The register after the bytes, from the first to the last.
unfoldable pub feeds : ℕ → List ℕ → ℕ
feeds s [] = s
feeds s (b ∷ bs) = feeds (feed s b) bs

-- The checksum: the register starts with all of its bits set, and what it holds after the bytes is inverted.
unfoldable pub crc : List ℕ → ℕ
crc bs = bit_xor (feeds 0xffff bs) 0xffff

-- The stretch `bytes` brought the register from `before` to `after` in such a way that whatever follows
-- gives the same as if it had been joined to the stretch and fed together with it.
abbrev pub StretchesJoin : ℕ → List ℕ → ℕ → Type 0
StretchesJoin before bytes after = (more : List ℕ) → feeds after more ≡ feeds before (bytes ++ more)
