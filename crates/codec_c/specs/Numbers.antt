-- Results as one number, for callers in C. A count of bytes stands for itself and is at most 522; a code's byte has 0x10000
-- added, the number of a local refusal 0x20000. So the three never meet.
use Rattle.std.specs.Prelude.{ℕ, ◌+◌, Ok, Err, Result}
use Rattle.commands.specs.declared.codes.Code.{Code}
use Rattle.commands.specs.declared.codes.Local.{Local as LocalRefusal}
use Rattle.commands.specs.declared.codes.Refusal.{Refusal}
use Rattle.commands.specs.declared.codes.Refusal.TheVariants.{Local, Code as Answer}
use Rattle.commands.specs.Codes.{code_byte, local_number}

abbrev pub code_number : Code → ℕ
code_number c = 0x10000 + code_byte c

abbrev pub refusal_number : Refusal → ℕ
refusal_number (Answer c) = code_number c
refusal_number (Local l) = 0x20000 + local_number l

-- a writer's result
abbrev pub count_number : Result ℕ Refusal → ℕ
count_number (Ok n) = n
count_number (Err e) = refusal_number e

-- a verdict
abbrev pub verdict_number : Result Code LocalRefusal → ℕ
verdict_number (Ok c) = code_number c
verdict_number (Err l) = refusal_number (Local l)
