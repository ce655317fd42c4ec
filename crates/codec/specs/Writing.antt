-- The host's writer: which frame a request becomes, and which requests are refused.
use Rattle.std.specs.Prelude.{◌≡◌, ℕ, ◌≤◌, Bool, false, cond, List, length, Ok, Err, Result, nat_lt}
use Rattle.std.specs.Borrow.{Bor}
use Rattle.commands.specs.declared.codes.Code.{Code}
use Rattle.commands.specs.declared.codes.Code.TheVariants.{WrongLength}
use Rattle.commands.specs.declared.codes.Local.TheVariants.{SmallBuffer}
use Rattle.commands.specs.declared.codes.Refusal.{Refusal}
use Rattle.commands.specs.declared.codes.Refusal.TheVariants.{Local, Code as Answer}
use Rattle.commands.specs.Fields.{Bytes}
use Rattle.commands.specs.Kinds.{kind_byte}
use Rattle.frame.specs.Layout.{framed, headed, opened, command_head, command_most}
use Rattle.frame.specs.Places.{stop, stop_request, stop_frame}
use Rattle.commands.specs.Requests.{Request as Asked, get, read, write, memory_crc, erase, protect, unprotect, Fitting, kind_for, request_data, wrong_length}
use Rattle.codec.specs.declared.request.Request.{Request}
use Rattle.codec.specs.declared.request.Request.TheVariants.{Get, Read, Write, MemoryCrc, Erase, Protect, Unprotect}

-- what a request asks for, by what bytes there are in what holds them
abbrev pub asked_by : {B : Type 0} → (B → List ℕ) → Request B → Asked
asked_by view (Get information) = get information
asked_by view (Read address count) = read address count
asked_by view (Write address bytes) = write address (view bytes)
asked_by view (MemoryCrc address count value) = memory_crc address count value
asked_by view (Erase mode index count) = erase mode index count
asked_by view Protect = protect
asked_by view Unprotect = unprotect

-- what a request with lent bytes asks for
abbrev pub asking : Request (Bor (List ℕ)) → Asked
asking = asked_by (λ bytes. bytes.now)

-- the frame of a request
abbrev pub frame_for : Asked → List ℕ
frame_for q = framed command_head (kind_byte (kind_for q)) (request_data q)

-- the first of places 5 to 7 that applies to a request: length, alignment, parameter; else what follows
abbrev pub unstopped : {X : Type 0} → Asked → X → Result X Refusal
unstopped q x = stop (wrong_length (kind_for q) (length (request_data q))) WrongLength (stop_request q (Ok x))

-- what a test that is to hold gives
abbrev pub demanded : Bool → Code → Result (Unit {0}) Refusal
demanded holds code = cond holds (Ok tt) (Err (Answer code))

-- the frame of a request, or its refusal
abbrev pub written : Asked → Result (List ℕ) Refusal
written q = unstopped q (frame_for q)

-- the same into a buffer with so much room: one with less than 522 bytes is refused ahead of the rest
abbrev pub written_within : ℕ → Asked → Result (List ℕ) Refusal
written_within room q = cond (nat_lt room 522) (Err (Local SmallBuffer)) (written q)

-- how many bytes were written
abbrev pub count_written : Result (List ℕ) Refusal → Result ℕ Refusal
count_written (Ok f) = Ok (length f)
count_written (Err e) = Err e

-- what the buffer holds then: the frame at its head, what lies beyond untouched; all of it untouched by a refusal
abbrev pub left_by : Result (List ℕ) Refusal → List ℕ → List ℕ
left_by (Ok f) buffer = headed f buffer
left_by (Err e) buffer = buffer

-- what the writer answers to a request, into a buffer of so many bytes
unfoldable pub written_count : ℕ → Asked → Result ℕ Refusal
written_count room q = count_written (written_within room q)

-- what the writer leaves in a buffer for a request
unfoldable pub written_buffer : List ℕ → Asked → List ℕ
written_buffer buffer q = left_by (written_within (length buffer) q) buffer

-- places 1 to 3 and 5 to 7 on some bytes: those that need neither the level nor the size of the part
abbrev pub passing : List ℕ → Result Asked Refusal
passing f = stop_frame (λ k. false) (λ q. false) (opened command_head command_most f)

-- whatever is written for a request passes, and asks for just that
abbrev pub WrittenFramesPass : Type 0
WrittenFramesPass = (q : Asked) (f : List ℕ) → Fitting q → written q ≡ Ok f → passing f ≡ Ok q

-- whatever passes is written, for the request that it asks for
abbrev pub PassingFramesAreWritten : Type 0
PassingFramesAreWritten = (q : Asked) (f : List ℕ) → Bytes f → passing f ≡ Ok q → Fitting q × (written q ≡ Ok f)

-- no frame is longer than the least buffer that the writer takes
abbrev pub FramesFitTheBuffer : Type 0
FramesFitTheBuffer = (q : Asked) (f : List ℕ) → written q ≡ Ok f → length f ≤ 522
