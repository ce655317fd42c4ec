-- The line that answers a line of the frame tool.
use Rattle.std.specs.Prelude.{◌≡◌, ℕ, List, [], ◌∷◌, map, Ok, Err, codes, decimal, Result, ◌≢◌}
use Rattle.commands.specs.declared.codes.Code.{Code}
use Rattle.commands.specs.declared.codes.Local.{Local as LocalRefusal}
use Rattle.commands.specs.declared.codes.Refusal.{Refusal}
use Rattle.commands.specs.declared.codes.Refusal.TheVariants.{Local, Code as Answered}
use Rattle.commands.specs.Codes.{code_byte, local_number}
use Rattle.codec.specs.Reading.{Said, reading}
use Rattle.codec.specs.Verdict.{verdict_of}
use Rattle.codec.specs.Writing.{written}
use Rattle.text.specs.Digits.{hex_byte}
use Rattle.script.specs.Forms.{Asked, request, answer, verdict, shown, Fits}
use Rattle.text.specs.Lines.{line_text}

-- a local refusal
abbrev pub local_line : LocalRefusal → List ℕ
local_line l = line_text (codes "local") (decimal (local_number l) ∷ [])

-- the frame of a request, or its refusal
abbrev pub frame_line : Result (List ℕ) Refusal → List ℕ
frame_line (Ok f) = line_text (codes "in") (map hex_byte f)
frame_line (Err (Answered c)) = line_text (codes "refused") (hex_byte (code_byte c) ∷ [])
frame_line (Err (Local l)) = local_line l

-- what an answer frame says: its code and its data
abbrev pub said_line : Result Said LocalRefusal → List ℕ
said_line (Ok s) = line_text (codes "code") (hex_byte (code_byte s.code) ∷ map hex_byte s.bytes)
said_line (Err l) = local_line l

-- the code that a frame meets with
abbrev pub verdict_line : Result Code LocalRefusal → List ℕ
verdict_line (Ok c) = line_text (codes "verdict") (hex_byte (code_byte c) ∷ [])
verdict_line (Err l) = local_line l

-- the answer to what a line asks for
abbrev pub answer_to : Asked → List ℕ
answer_to (request q) = frame_line (written q)
answer_to (answer f) = said_line (reading f)
answer_to (verdict level pages f) = verdict_line (verdict_of level pages f)

-- a line's answer: what it asks for, where it is the text of a form, and else that it is bad
pub record Replied (line reply : List ℕ) : Type 0 where
  pub served : (a : Asked) → Fits a → shown a ≡ line → reply ≡ answer_to a
  pub bad : ((a : Asked) → Fits a → shown a ≢ line) → reply ≡ codes "(bad line)"
