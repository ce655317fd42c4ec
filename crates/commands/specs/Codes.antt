-- The nine answer codes and the six local refusals, with their numbers.
use Rattle.std.specs.Prelude.{ℕ, cond, List, [], ◌∷◌, Some, None, Option, ◌==◌}
use Rattle.commands.specs.declared.codes.Code.{Code}
use Rattle.commands.specs.declared.codes.Code.TheVariants.{Done, NotAllowed, FlashRefused, WrongLength, WrongChecksum, NotAligned, OutOfRange, WrongParameter, UnknownCommand}
use Rattle.commands.specs.declared.codes.NoCode.{NoCode}
use Rattle.commands.specs.declared.codes.Local.{Local}
use Rattle.commands.specs.declared.codes.Local.TheVariants.{SmallBuffer, WrongHead, WrongTotal, LongAnswer, DamagedAnswer, UnknownCode}

-- a code's byte in an answer frame
abbrev pub code_byte : Code → ℕ
code_byte Done = 0x90
code_byte NotAllowed = 0x63
code_byte FlashRefused = 0x65
code_byte WrongLength = 0x67
code_byte WrongChecksum = 0x68
code_byte NotAligned = 0x69
code_byte OutOfRange = 0x6A
code_byte WrongParameter = 0x6B
code_byte UnknownCommand = 0x6D

-- all the codes
abbrev pub codes : List Code
codes = Done ∷ NotAllowed ∷ FlashRefused ∷ WrongLength ∷ WrongChecksum ∷ NotAligned ∷ OutOfRange ∷ WrongParameter ∷ UnknownCommand ∷ []

-- the first of some codes that has the byte
abbrev pub code_among : List Code → ℕ → Option Code
code_among [] b = None
code_among (c ∷ cs) b = cond (b == code_byte c) (Some c) (code_among cs b)

-- the code that a byte stands for
abbrev pub code_of : ℕ → Option Code
code_of b = code_among codes b

-- a byte that is no code's
abbrev pub no_code : ℕ → NoCode
no_code b = record { 0 = b }

-- the number of a local refusal
abbrev pub local_number : Local → ℕ
local_number SmallBuffer = 1
local_number WrongHead = 2
local_number WrongTotal = 3
local_number LongAnswer = 4
local_number DamagedAnswer = 5
local_number UnknownCode = 6
