-- What a flaw of some bytes is called: in a command frame, and in an answer frame.
use Rattle.commands.specs.declared.codes.Code.TheVariants.{WrongLength, WrongChecksum}
use Rattle.commands.specs.declared.codes.Local.{Local}
use Rattle.commands.specs.declared.codes.Local.TheVariants.{WrongHead as Head, WrongTotal as Total, LongAnswer, DamagedAnswer}
use Rattle.commands.specs.declared.codes.Refusal.{Refusal}
use Rattle.commands.specs.declared.codes.Refusal.TheVariants.{Local as Here, Code as Answer}
use Rattle.frame.specs.declared.layout.Flaw.{Flaw}
use Rattle.frame.specs.declared.layout.Flaw.TheVariants.{WrongHead, WrongTotal, TooLong, Damaged}

-- a command frame: a length field above the limit (place 1) and a wrong checksum (place 2) get the part's codes; a wrong
-- head and a wrong number of bytes are no frame, and are refused on this side
abbrev pub stopped_by : Flaw → Refusal
stopped_by WrongHead = Here Head
stopped_by WrongTotal = Here Total
stopped_by TooLong = Answer WrongLength
stopped_by Damaged = Answer WrongChecksum

-- an answer frame: all are refused on this side
abbrev pub unreadable : Flaw → Local
unreadable WrongHead = Head
unreadable WrongTotal = Total
unreadable TooLong = LongAnswer
unreadable Damaged = DamagedAnswer
