-- Where a frame is stopped: the first place that applies answers.
use Rattle.std.specs.Prelude.{◌≡◌, ℕ, Bool, true, false, cond, List, length, take, drop, Some, None, Ok, Err, Option, Result}
use Rattle.commands.specs.declared.codes.Code.{Code}
use Rattle.commands.specs.declared.codes.Code.TheVariants.{NotAllowed, WrongLength, NotAligned, OutOfRange, WrongParameter, UnknownCommand}
use Rattle.commands.specs.declared.codes.Refusal.{Refusal}
use Rattle.commands.specs.declared.codes.Refusal.TheVariants.{Code as Answer}
use Rattle.commands.specs.declared.kinds.Kind.{Kind}
use Rattle.commands.specs.declared.kinds.Level.{Level}
use Rattle.frame.specs.declared.layout.Flaw.{Flaw}
use Rattle.frame.specs.declared.command.Command.{Command}
use Rattle.frame.specs.declared.command.Command.TheVariants.{Get, Read, Write, MemoryCrc, Erase, Protect, Unprotect}
use Rattle.frame.specs.Flaws.{stopped_by}
use Rattle.commands.specs.Kinds.{kind_of, forbidden, information_number, mode_byte}
use Rattle.frame.specs.Layout.{Held, opened, command_head, command_most}
use Rattle.commands.specs.Requests.{Request, get, read, write, memory_crc, erase, protect, unprotect, request_of, wrong_length, misaligned, wrong_parameter, out_of_range}

-- a place of the order: where it applies, its code is the answer, and else the next place decides
abbrev pub stop : {X : Type 0} → Bool → Code → Result X Refusal → Result X Refusal
stop applies code next = cond applies (Err (Answer code)) next

-- places 6 and 7: alignment, then parameter
abbrev pub stop_request : {X : Type 0} → Request → Result X Refusal → Result X Refusal
stop_request q next = stop (misaligned q) NotAligned (stop (wrong_parameter q) WrongParameter next)

-- places 3 to 8 for a tag and its data. The level place and the range place are handed in, so that the host's writer,
-- which knows neither level nor size of the part, is judged by the same text
abbrev pub stop_command : (Kind → Bool) → (Request → Bool) → Option Kind → List ℕ → Result Request Refusal
stop_command level range None d = Err (Answer UnknownCommand)
stop_command level range (Some k) d =
    stop (level k) NotAllowed
    (stop (wrong_length k (length d)) WrongLength
    (stop_request (request_of k d)
    (stop (range (request_of k d)) OutOfRange
    (Ok (request_of k d)))))

-- places 1 to 8 for some bytes: what they ask for, or where they are stopped
abbrev pub stop_frame : (Kind → Bool) → (Request → Bool) → Result Held Flaw → Result Request Refusal
stop_frame level range (Err flaw) = Err (stopped_by flaw)
stop_frame level range (Ok h) = stop_command level range (kind_of h.tag) h.bytes

-- the part's judgement, at a level and with P pages
abbrev pub judged : Level → ℕ → List ℕ → Result Request Refusal
judged level P f = stop_frame (forbidden level) (out_of_range P) (opened command_head command_most f)

-- what a command asks for
abbrev pub asked : Command → Request
asked (Get information) = get (information_number information)
asked (Read address count) = read address count
asked (Write at payload) = write payload.address payload.bytes.now
asked (MemoryCrc address count value) = memory_crc address count value
asked (Erase mode index count) = erase (mode_byte mode) index count
asked Protect = protect
asked Unprotect = unprotect

-- the same of a result
abbrev pub asked_or_refused : Result Command Refusal → Result Request Refusal
asked_or_refused (Ok c) = Ok (asked c)
asked_or_refused (Err e) = Err e

-- a command that asks for just that, or the parameter place, where it applies and the alignment place does not
abbrev pub Asks : Request → Result Command Refusal → Type 0
Asks q (Ok c) = asked c ≡ q
Asks q (Err e) = (misaligned q ≡ false) × (wrong_parameter q ≡ true) × (e ≡ Answer WrongParameter)

-- a Write's bytes are the part of the frame that begins at its place, which is 8
abbrev pub Placed : List ℕ → Command → Type 0
Placed f (Get information) = Unit {0}
Placed f (Read address count) = Unit {0}
Placed f (Write at payload) = (at ≡ 8) × (payload.bytes.now ≡ take (length payload.bytes.now) (drop at f))
Placed f (MemoryCrc address count value) = Unit {0}
Placed f (Erase mode index count) = Unit {0}
Placed f Protect = Unit {0}
Placed f Unprotect = Unit {0}

-- a Write's bytes are those of a data field past the address, and their place in the frame is 8
abbrev pub Standing : List ℕ → Command → Type 0
Standing d (Get information) = Unit {0}
Standing d (Read address count) = Unit {0}
Standing d (Write at payload) = (at ≡ 8) × (payload.bytes.now ≡ drop 4 d)
Standing d (MemoryCrc address count value) = Unit {0}
Standing d (Erase mode index count) = Unit {0}
Standing d Protect = Unit {0}
Standing d Unprotect = Unit {0}

-- a command that no place stops, on a part with P pages: its parameters and its range are good
pub record Lawful (P : ℕ) (c : Command) : Type 0 where
  pub known : wrong_parameter (asked c) ≡ false
  pub within : out_of_range P (asked c) ≡ false
