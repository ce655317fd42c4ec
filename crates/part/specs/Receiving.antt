-- What a byte does to a part that is not busy.
use Rattle.std.specs.Prelude.{ℕ, ◌*◌, ◌/◌, true, false, cond, List, [], ◌∷◌, ◌++◌, length, take, drop, Ok, Err, Result, ◌==◌, nat_lt}
use Rattle.areas.specs.declared.map.Area.{Area}
use Rattle.areas.specs.declared.map.Area.TheVariants.{User, Options, Outside}
use Rattle.commands.specs.declared.codes.Code.{Code}
use Rattle.commands.specs.declared.codes.Code.TheVariants.{Done, WrongLength}
use Rattle.commands.specs.declared.codes.Refusal.{Refusal}
use Rattle.commands.specs.declared.codes.Refusal.TheVariants.{Local, Code as Answer}
use Rattle.commands.specs.declared.kinds.Level.{Level}
use Rattle.areas.specs.Areas.{place_of}
use Rattle.commands.specs.Codes.{code_byte}
use Rattle.commands.specs.Fields.{bytes_of_two}
use Rattle.commands.specs.Kinds.{supported}
use Rattle.frame.specs.Layout.{framed, total, length_field, answer_head, command_head, command_most}
use Rattle.frame.specs.Places.{judged}
use Rattle.commands.specs.Requests.{Request, get, read, write, memory_crc, erase, protect, unprotect}
use Rattle.areas.specs.Words.{bytes_of_words}
use Rattle.flash.specs.Meaning.{Meaning}
use Rattle.memory.specs.Portions.{area_words}
use Rattle.part.specs.declared.identity.Identity.{Identity}
use Rattle.commands.specs.Kinds.{level_byte}
use Rattle.part.specs.Parts.{Wire, writing, setting, checking, erasing, protecting, Hand, none, unprotecting, doing}

-- the answer frame of a code, without data
abbrev pub code_answer : Code → List ℕ
code_answer c = framed answer_head (code_byte c) []

-- the answer frame that gives data
abbrev pub data_answer : List ℕ → List ℕ
data_answer d = framed answer_head (code_byte Done) d

-- what a byte gets: nothing, some bytes, or that its frame was taken up
pub data Reply : Type 0 where
  quiet : Reply
  taken_up : Reply
  replied : List ℕ → Reply

-- what a byte leaves: the receiver's side, the command taken up, and the reply
pub record Heard : Type 0 where
  pub wire : Wire
  pub takes : Hand
  pub reply : Reply

-- connected, and between frames
abbrev pub between : Wire
between = record { connected = true; frame = [] }

abbrev pub waiting : List ℕ → Heard
waiting f = record { wire = record { connected = true; frame = f }; takes = none; reply = quiet }

abbrev pub answering : List ℕ → Heard
answering bytes = record { wire = between; takes = none; reply = replied bytes }

abbrev pub taking : Hand → Heard
taking hand = record { wire = between; takes = hand; reply = taken_up }

-- the version and two bytes of zero; device, package and sizes in KiB
abbrev pub version_told : Identity → List ℕ
version_told i = bytes_of_two i.version ++ (0 ∷ 0 ∷ [])

abbrev pub device_told : Identity → ℕ → List ℕ
device_told i P = i.device ∷ i.«package» ∷ (bytes_of_two (P / 2) ++ bytes_of_two i.sram)

-- what Get tells of a part with P pages: commands, unique id, level, version, or device, package and sizes in KiB
abbrev pub information : Identity → Level → ℕ → ℕ → List ℕ
information i level P n =
    cond (n == 0) supported
    (cond (n == 1) i.uid
    (cond (n == 2) (level_byte level ∷ [])
    (cond (n == 3) (bytes_of_two i.version ++ (0 ∷ 0 ∷ []))
    (i.device ∷ i.«package» ∷ (bytes_of_two (P / 2) ++ bytes_of_two i.sram)))))

-- so many words of an area from a number on, as bytes
abbrev pub bytes_at : Meaning → Area × ℕ → ℕ → List ℕ
bytes_at m place count = bytes_of_words (take count (drop place.1 (area_words m place.0)))

-- the command that a Write becomes
abbrev pub write_task : Area → ℕ → List ℕ → Hand
write_task User i bytes = doing (writing i bytes 0)
write_task Options i bytes = doing (setting i bytes)
write_task Outside i bytes = none

-- the pages that an Erase names, of P pages: the first, and how many
abbrev pub erase_task : ℕ → ℕ → ℕ → ℕ → Hand
erase_task P mode index count =
    cond (mode == 0xAA) (doing (erasing index count 0))
    (cond (mode == 0x55) (doing (erasing (8 * index) (8 * count) 0))
    (doing (erasing 0 P 0)))

-- what a part does about a request that no place stopped
unfoldable pub served : Identity → Level → Meaning → Request → Heard
served i level m (get n) = answering (data_answer (information i level m.pages n))
served i level m (read address n) = answering (data_answer (bytes_at m (place_of m.pages address) (n / 4)))
served i level m (write address bytes) = taking (write_task (place_of m.pages address).0 (place_of m.pages address).1 bytes)
served i level m (memory_crc address n value) = taking (doing (checking (place_of m.pages address).1 (n / 4) value 0 0xFFFF))
served i level m (erase mode index count) = taking (erase_task m.pages mode index count)
served i level m protect = taking (doing protecting)
served i level m unprotect = taking (unprotecting 0)

-- the same of a judgement; a frame that was received whole has its head and its number of bytes, so that no local
-- refusal comes here
abbrev pub answered : Identity → Level → Meaning → Result Request Refusal → Heard
answered i level m (Ok q) = served i level m q
answered i level m (Err (Answer c)) = answering (code_answer c)
answered i level m (Err (Local l)) = waiting []

-- a frame with one byte more: a length above 516 is answered at the fourth byte, all else at the last
unfoldable pub framing : Identity → Level → Meaning → List ℕ → Heard
framing i level m f =
    cond (nat_lt (length f) 4) (waiting f)
    (cond (nat_lt command_most (length_field f)) (answering (code_answer WrongLength))
    (cond (length f == total (length_field f)) (answered i level m (judged level m.pages f))
    (waiting f)))

-- the connection byte and the byte that answers it
abbrev pub connect_byte : ℕ
connect_byte = 0x5A

-- between frames: the connection byte is answered, a head opens a frame, other bytes are quiet
abbrev pub idle_byte : ℕ → Heard
idle_byte b =
    cond (b == connect_byte) (answering (answer_head ∷ []))
    (cond (b == command_head) (waiting (command_head ∷ []))
    (waiting []))

-- inside a frame, or between frames
abbrev pub connected_byte : Identity → Level → Meaning → List ℕ → ℕ → Heard
connected_byte i level m [] b = idle_byte b
connected_byte i level m (x ∷ f) b = framing i level m ((x ∷ f) ++ (b ∷ []))

-- unconnected, the connection byte alone is answered
abbrev pub unconnected_byte : ℕ → Heard
unconnected_byte b =
    cond (b == connect_byte) (answering (answer_head ∷ []))
    (record { wire = record { connected = false; frame = [] }; takes = none; reply = quiet })

-- what a byte does to a part that has no command in hand and no ticket out
abbrev pub heard : Identity → Level → Meaning → Wire → ℕ → Heard
heard i level m w b = cond w.connected (connected_byte i level m w.frame b) (unconnected_byte b)
