-- The verdict on a frame: the code that a part at a level and with so many pages answers, or 0x90 where no place stops it.
use Rattle.std.specs.Prelude.{ℕ, ◌*◌, ◌/◌, min, List, Ok, Err, Result}
use Rattle.commands.specs.declared.codes.Code.{Code}
use Rattle.commands.specs.declared.codes.Code.TheVariants.{Done}
use Rattle.commands.specs.declared.codes.Local.{Local as LocalRefusal}
use Rattle.commands.specs.declared.codes.Refusal.{Refusal}
use Rattle.commands.specs.declared.codes.Refusal.TheVariants.{Local, Code as Answer}
use Rattle.commands.specs.Kinds.{level_from}
use Rattle.frame.specs.Places.{judged}
use Rattle.commands.specs.Requests.{Request}

-- the pages that a number counts as: the greatest multiple of 8 in it, at most 1024
abbrev pub pages_counted : ℕ → ℕ
pages_counted n = min (n / 8 * 8) 1024

-- a judgement as a code
abbrev pub code_from : Result Request Refusal → Result Code LocalRefusal
code_from (Ok q) = Ok Done
code_from (Err (Answer c)) = Ok c
code_from (Err (Local l)) = Err l

-- the verdict; any level other than 0 counts as 1
abbrev pub verdict_of : ℕ → ℕ → List ℕ → Result Code LocalRefusal
verdict_of level pages f = code_from (judged (level_from level) (pages_counted pages) f)
