use Rattle.std.proofs.Common.{◌≡◌, ◌*◌, drop}
use Rattle.checksum.specs.Crc.{feeds}
use Rattle.checksum.proofs.after.Given as goal

-- what is left, fed to the register, gives what the whole gives
abbrev pub invariant-loop-low : goal.invariant-loop-low
invariant-loop-low l = feeds l.s (drop (2 * l.low-index) l.bytes) ≡ feeds l.initial.s l.bytes
