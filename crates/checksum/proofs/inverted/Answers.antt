use Rattle.std.proofs.Common.{ℕ, refl, ap}
use lib.Bits.{bit_xor}
use Rattle.checksum.specs.Crc.{crc}
use Rattle.checksum.proofs.inverted.Goals as goal

pub returns : goal.returns
unfolding crc
returns c = record { inverted = refl; whole = λ bs e. ap (λ (s : ℕ). bit_xor s 0xffff) e }
