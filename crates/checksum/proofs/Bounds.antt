-- The register keeps to 16 bits.
-- Assumes nothing.
use Rattle.std.proofs.Common.{ℕ, zero, suc, ◌*◌, ◌/◌, ◌%◌, ◌^◌, ◌<◌, List, [], ◌∷◌, get_or, arith}
use lib.Bits.{bit_xor, xor_lt}
use Rattle.checksum.specs.Crc.{step, steps, feed, feeds, crc}

step_lt : (s : ℕ) → s < 2 ^ 16 → step s < 2 ^ 16
unfolding step
step_lt s h = xor_lt 16 (s / 2) (s % 2 * 0x8408) (omega arith) (omega arith)

steps_lt : (k s : ℕ) → s < 2 ^ 16 → steps k s < 2 ^ 16
unfolding steps
steps_lt zero s h = h
steps_lt (suc k) s h = steps_lt k (step s) (step_lt s h)

feed_lt : (s b : ℕ) → s < 2 ^ 16 → b < 256 → feed s b < 2 ^ 16
unfolding feed
feed_lt s b h k = steps_lt 8 (bit_xor s b) (xor_lt 16 s b h (omega arith))

feeds_lt : (s : ℕ) (bs : List ℕ) → s < 2 ^ 16 → ((i : ℕ) → get_or bs i 0 < 256) → feeds s bs < 2 ^ 16
unfolding feeds
feeds_lt s [] h k = h
feeds_lt s (b ∷ bs) h k = feeds_lt (feed s b) bs (feed_lt s b h (k zero)) (λ i. k (suc i))

-- the checksum of bytes fits two bytes
pub crc_lt : (bs : List ℕ) → ((i : ℕ) → get_or bs i 0 < 256) → crc bs < 2 ^ 16
unfolding crc
crc_lt bs k = xor_lt 16 (feeds 0xffff bs) 0xffff (feeds_lt 0xffff bs (omega arith) k) (omega arith)
