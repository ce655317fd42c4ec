-- The lines that a bench answers with.
use Rattle.std.specs.Prelude.{ℕ, List, [], ◌∷◌, map, Some, None, codes, decimal, Option}
use Rattle.flash.specs.declared.fault.Asked.{Asked}
use Rattle.flash.specs.declared.fault.Asked.TheVariants.{Page, Word, OptionWord, OptionWrite}
use Rattle.flash.specs.declared.fault.Cause.{Cause}
use Rattle.flash.specs.declared.fault.Cause.TheVariants.{Range, NotErased, Worn}
use Rattle.part.specs.declared.report.CommandFault.{CommandFault}
use Rattle.text.specs.Digits.{hex_byte, hex_long}
use Rattle.text.specs.Lines.{line_text}
use Rattle.bench_script.specs.declared.said.Said.{Said}
use Rattle.bench_script.specs.declared.said.Said.TheVariants.{Taken, Idle, Going, Reset, NoTicket, BadLine, Fault}

-- why a flash refused
abbrev pub cause_text : Cause → List ℕ
cause_text Range = codes "range"
cause_text NotErased = codes "not-erased"
cause_text Worn = codes "worn"

-- the number of the page, word or option word that it was asked for; 0 for the option write
abbrev pub number_of : Asked → ℕ
number_of (Page page) = page
number_of (Word word) = word
number_of (OptionWord word) = word
number_of OptionWrite = 0

-- the bytes of an answer
abbrev pub out_line : List ℕ → List ℕ
out_line bytes = line_text (codes "out") (map hex_byte bytes)

-- a fault report: cause, number, address, and the code of the command
abbrev pub report_line : CommandFault → List ℕ
report_line f =
    line_text (codes "fault")
    (cause_text f.memory.flash.cause ∷ decimal (number_of f.memory.flash.asked) ∷ hex_long f.memory.address ∷ hex_byte f.command ∷ [])

-- the last fault report, if there is one
abbrev pub fault_line : Option CommandFault → List ℕ
fault_line None = codes "(fault none)"
fault_line (Some f) = report_line f

-- the line of whatever else a bench says
abbrev pub line_of : Said → List ℕ
line_of Taken = codes "(taken)"
line_of Idle = codes "(idle)"
line_of Going = codes "(going)"
line_of Reset = codes "(reset)"
line_of NoTicket = codes "(no ticket)"
line_of BadLine = codes "(bad line)"
line_of (Fault report) = fault_line report
