-- The layout of a frame: a head, a tag (command or code), the length of the data in two bytes, the data, and the data's
-- checksum in two bytes. A frame with no data has no checksum.
use Rattle.std.specs.Prelude.{ℕ, ◌+◌, Bool, true, cond, List, [], ◌∷◌, ◌++◌, length, take, drop, Some, None, Ok, Err, Option, Result, ◌==◌, nat_le, nat_lt, slice_index}
use Rattle.checksum.specs.Crc.{crc}
use Rattle.frame.specs.declared.layout.Flaw.{Flaw}
use Rattle.frame.specs.declared.layout.Flaw.TheVariants.{WrongHead, WrongTotal, TooLong, Damaged}
use Rattle.frame.specs.declared.layout.Content.{Content}
use Rattle.commands.specs.Fields.{two, bytes_of_two}

-- the heads of command frames and of answer frames, and the most bytes of data that each may have
abbrev pub command_head : ℕ
command_head = 0x85

abbrev pub command_most : ℕ
command_most = 516

abbrev pub answer_head : ℕ
answer_head = 0xB3

abbrev pub answer_most : ℕ
answer_most = 512

-- the checksum of the data as it stands in a frame
abbrev pub check_bytes : List ℕ → List ℕ
check_bytes bytes = cond (length bytes == 0) [] (bytes_of_two (crc bytes))

-- the frame with that head, tag and data
abbrev pub framed : ℕ → ℕ → List ℕ → List ℕ
framed head tag bytes = head ∷ tag ∷ (bytes_of_two (length bytes) ++ (bytes ++ check_bytes bytes))

-- how many bytes a frame with n bytes of data has
abbrev pub total : ℕ → ℕ
total n = cond (n == 0) 4 (6 + n)

-- the frame with that head, tag and data, where a length field can name the data's length and so many bytes hold the frame
abbrev pub framed_within : ℕ → ℕ → ℕ → List ℕ → Option (List ℕ)
framed_within room head tag bytes =
    cond (nat_le (length bytes) 65535)
    (cond (nat_le (total (length bytes)) room) (Some (framed head tag bytes)) None)
    None

-- a buffer with some bytes at its head: what lies beyond them is untouched
abbrev pub headed : List ℕ → List ℕ → List ℕ
headed bytes buffer = bytes ++ drop (length bytes) buffer

-- how many bytes there are, if any
abbrev pub counted : Option (List ℕ) → Option ℕ
counted (Some f) = Some (length f)
counted None = None

-- the same where there may be none: then the buffer is untouched
abbrev pub over : Option (List ℕ) → List ℕ → List ℕ
over (Some f) buffer = headed f buffer
over None buffer = buffer

-- how many bytes of data a frame says that it has
abbrev pub length_field : List ℕ → ℕ
length_field f = two f 2

-- the data of a frame
abbrev pub data_field : List ℕ → List ℕ
data_field f = take (length_field f) (drop 4 f)

-- the checksum at the end of a frame belongs to its data
abbrev pub intact : List ℕ → Bool
intact f = cond (length_field f == 0) true (two f (4 + length_field f) == crc (data_field f))

-- what a frame holds: its tag, and its data with the place where they begin
pub record Held : Type 0 where
  pub tag : ℕ
  pub at : ℕ
  pub bytes : List ℕ

-- what the bytes hold as one whole frame with that head and at most so many bytes of data, or the first flaw
abbrev pub opened : ℕ → ℕ → List ℕ → Result Held Flaw
opened head most f =
    cond (nat_lt (length f) 4) (Err WrongTotal)
    (cond (slice_index f 0 == head)
    (cond (nat_lt most (length_field f)) (Err TooLong)
    (cond (length f == total (length_field f))
    (cond (intact f) (Ok (record { tag = slice_index f 1; at = 4; bytes = data_field f })) (Err Damaged))
    (Err WrongTotal)))
    (Err WrongHead))

-- what the code returns, without the reference
abbrev pub held : Result Content Flaw → Result Held Flaw
held (Ok c) = Ok (record { tag = c.tag; at = c.at; bytes = c.bytes.now })
held (Err e) = Err e
