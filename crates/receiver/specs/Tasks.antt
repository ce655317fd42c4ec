-- Tasks whose numbers are bounded.
use Rattle.std.specs.Prelude.{◌+◌, ◌^◌, Bool, true, ◌&&◌, nat_le, nat_lt}
use Rattle.receiver.specs.declared.task.Task.{Task}
use Rattle.receiver.specs.declared.task.Task.TheVariants.{Writing, Setting, Checking, Erasing, Protecting, Unprotecting, AwaitingReset}

-- the numbers of a task, added up, pass no limit of 32 bits, no more is done of it than there is, a Write has 1 to 128 words, and
-- one of option words keeps to the four
abbrev pub bounded : Task → Bool
bounded (Writing first words done) = nat_lt (first + 256) (2 ^ 32) && (nat_le 1 words && nat_le words 128)
bounded (Setting first words) = nat_le 1 words && nat_le (first + words) 4
bounded (Checking first count value done register) = nat_le done count && nat_lt (first + count) (2 ^ 32)
bounded (Erasing first count done) = nat_lt (first + count) (2 ^ 32)
bounded Protecting = true
bounded (Unprotecting done) = true
bounded AwaitingReset = true
