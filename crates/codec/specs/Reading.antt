-- The host's reader: one answer frame in, code and data out.
use Rattle.std.specs.Prelude.{◌≡◌, ℕ, ◌≤◌, List, length, Some, None, Ok, Err, Option, Result}
use Rattle.commands.specs.declared.codes.Code.{Code}
use Rattle.commands.specs.declared.codes.Local.{Local}
use Rattle.commands.specs.declared.codes.Local.TheVariants.{UnknownCode}
use Rattle.frame.specs.declared.layout.Flaw.{Flaw}
use Rattle.commands.specs.Codes.{code_byte, code_of}
use Rattle.commands.specs.Fields.{Bytes}
use Rattle.frame.specs.Flaws.{unreadable}
use Rattle.frame.specs.Layout.{Held, framed, opened, answer_head, answer_most}
use Rattle.codec.specs.declared.answer.Answer.{Answer}

-- what an answer frame says: its code, and its data with the place where they begin
pub record Said : Type 0 where
  pub code : Code
  pub at : ℕ
  pub bytes : List ℕ

-- an opened frame's tag is a code, or it is no answer
abbrev pub coded : Held → Option Code → Result Said Local
coded h None = Err UnknownCode
coded h (Some c) = Ok (record { code = c; at = h.at; bytes = h.bytes })

abbrev pub said : Result Held Flaw → Result Said Local
said (Err flaw) = Err (unreadable flaw)
said (Ok h) = coded h (code_of h.tag)

-- what some bytes say as one answer frame, or the first refusal
abbrev pub reading : List ℕ → Result Said Local
reading f = said (opened answer_head answer_most f)

-- what the code returns, without the reference
abbrev pub answered : Result Answer Local → Result Said Local
answered (Ok a) = Ok (record { code = a.code; at = a.at; bytes = a.bytes.now })
answered (Err e) = Err e

-- reading the answer frame of any code and of 0 to 512 bytes of data gives back that code and those data
abbrev pub AnswersReadBack : Type 0
AnswersReadBack = (c : Code) (d : List ℕ) → Bytes d → length d ≤ answer_most
    → reading (framed answer_head (code_byte c) d) ≡ Ok (record { code = c; at = 4; bytes = d })
