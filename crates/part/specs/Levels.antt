-- The protection level, as option word 0 says it.
use Rattle.std.specs.Prelude.{ℕ, ◌%◌, cond, ◌==◌}
use Rattle.commands.specs.declared.kinds.Level.{Level}
use Rattle.commands.specs.declared.kinds.Level.TheVariants.{Open, Locked}

-- level 0 exactly where the low byte of option word 0 is 0xAA
abbrev pub level_of : ℕ → Level
level_of word = cond (word % 256 == 0xAA) Open Locked

-- what Protect and Unprotect make of option word 0
abbrev pub lock_word : ℕ
lock_word = 0

abbrev pub unlock_word : ℕ
unlock_word = 0xAA
