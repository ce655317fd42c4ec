-- Rows that the checker computes from the definitions: the printed examples of the protocol, and worked runs that show that
-- the laws are not empty.
use Rattle.std.specs.Prelude.{◌≡◌, ℕ, true, List, [], ◌∷◌, ◌++◌, map, replicate, Some, Ok, Option, Result, slice_index, slice_index_or}
use Rattle.checksum.specs.Crc.{crc}
use Rattle.commands.specs.declared.codes.Refusal.{Refusal}
use Rattle.commands.specs.declared.kinds.Level.{Level}
use Rattle.commands.specs.declared.kinds.Level.TheVariants.{Open, Locked}
use Rattle.frame.specs.Places.{judged}
use Rattle.commands.specs.Requests.{Request, get}
use Rattle.flash.specs.Cuts.{old, new, junk}
use Rattle.flash.specs.Faults.{word_not_erased}
use Rattle.flash.specs.Meaning.{Meaning, blank}
use Rattle.part.specs.declared.identity.Identity.{Identity}
use Rattle.part.specs.declared.report.CommandFault.{CommandFault}
use Rattle.part.specs.Events.{Event, byte, work, reset, cut, cut_work, Said, silent, bytes, bytes_and_ticket, says, run}
use Rattle.part.specs.Levels.{lock_word, unlock_word}
use Rattle.part.specs.Parts.{Part, started, outward}

-- what a row tells
pub data Fact : Type 0 where
  says_last : Said → Fact
  asks : Result Request Refusal → Fact
  checksum : ℕ → Fact
  reports : Option CommandFault → Fact
  stands_at : Level → Fact
  reads : ℕ → Fact

-- an identity of zeros
abbrev pub zero_identity : Identity
zero_identity = record { uid = replicate 12 0; version = 0; device = 0; «package» = 0; sram = 0 }

-- a flash of so many pages that all read one word, with option word 0, three erases left each and three option writes left
abbrev pub flash_of : ℕ → List ℕ → ℕ → Meaning
flash_of pages words option = record {
  pages = pages;
  words = words;
  options = option ∷ 0 ∷ 0 ∷ 0 ∷ [];
  erases_left = replicate pages 3;
  option_writes_left = 3;
}

-- the bench's part: 16 pages, all erased, open
abbrev pub bench_part : Part
bench_part = started zero_identity (flash_of 16 (replicate 2048 blank) unlock_word)

-- bytes received with a buffer that suffices, and work calls
abbrev pub received : List ℕ → List Event
received bs = map (λ b. byte b 518) bs

abbrev pub worked : ℕ → List Event
worked n = replicate n (work 518)

-- the answer to the last event behind a list
abbrev pub last_said : Part → List Event → Event → Said
last_said p es e = says (run p es) e

-- the connection byte, and some frames
abbrev pub greeting : List Event
greeting = received (0x5A ∷ [])

-- the first bytes of a Read of the first word, and its last byte
abbrev pub read_start : List Event
read_start = received (0x85 ∷ 0xF1 ∷ 0x00 ∷ 0x06 ∷ 0x08 ∷ 0x00 ∷ 0x00 ∷ 0x00 ∷ 0x00 ∷ 0x04 ∷ 0x90 ∷ [])

abbrev pub read_end : Event
read_end = byte 0xF3 518

-- a Write of the first word
abbrev pub write_frame : List Event
write_frame = received (0x85 ∷ 0xF2 ∷ 0x00 ∷ 0x08 ∷ 0x08 ∷ 0x00 ∷ 0x00 ∷ 0x00 ∷ 0x11 ∷ 0x22 ∷ 0x33 ∷ 0x44 ∷ 0x5F ∷ 0xBC ∷ [])

abbrev pub unprotect_frame : List Event
unprotect_frame = received (0x85 ∷ 0xA1 ∷ 0x00 ∷ 0x00 ∷ [])

-- ---- the printed rows

abbrev pub computed_rows : List Fact
computed_rows =
    asks (judged Open 16 (0x85 ∷ 0x01 ∷ 0x00 ∷ 0x01 ∷ 0x00 ∷ 0xF0 ∷ 0x78 ∷ []))
    ∷ checksum (crc (0x01 ∷ []))
    ∷ says_last (last_said bench_part (greeting ++ read_start) read_end)
    ∷ says_last (last_said bench_part (greeting ++ write_frame) (work 518))
    ∷ says_last (last_said bench_part (greeting ++ (write_frame ++ (worked 1 ++ read_start))) read_end)
    ∷ says_last (last_said bench_part (greeting ++ (write_frame ++ (worked 1 ++ write_frame))) (work 518))
    ∷ reports (run bench_part (greeting ++ (write_frame ++ (worked 1 ++ (write_frame ++ worked 1))))).last
    ∷ says_last (last_said bench_part (greeting ++ received (0x85 ∷ 0xA1 ∷ 0x00 ∷ [])) (byte 0x00 518))
    ∷ says_last (last_said bench_part (greeting ++ received (0x85 ∷ 0x12 ∷ 0x00 ∷ [])) (byte 0x00 518))
    ∷ says_last (last_said bench_part (greeting ++ received (0x85 ∷ 0xF2 ∷ 0x02 ∷ [])) (byte 0x04 518))
    ∷ says_last (last_said bench_part (greeting ++ received (0x85 ∷ 0xF2 ∷ 0x02 ∷ [])) (byte 0x05 518))
    ∷ []

abbrev pub printed_rows : List Fact
printed_rows =
    asks (Ok (get 0))
    ∷ checksum 0xE1F1
    ∷ says_last (bytes (0xB3 ∷ 0x90 ∷ 0x00 ∷ 0x04 ∷ 0xFF ∷ 0xFF ∷ 0xFF ∷ 0xFF ∷ 0x0F ∷ 0x47 ∷ []))
    ∷ says_last (bytes (0xB3 ∷ 0x90 ∷ 0x00 ∷ 0x00 ∷ []))
    ∷ says_last (bytes (0xB3 ∷ 0x90 ∷ 0x00 ∷ 0x04 ∷ 0x11 ∷ 0x22 ∷ 0x33 ∷ 0x44 ∷ 0x0D ∷ 0xAD ∷ []))
    ∷ says_last (bytes (0xB3 ∷ 0x65 ∷ 0x00 ∷ 0x00 ∷ []))
    ∷ reports (Some (record { memory = record { flash = word_not_erased 0; address = 0x08000000 }; command = 0xF2 }))
    ∷ says_last (bytes (0xB3 ∷ 0x63 ∷ 0x00 ∷ 0x00 ∷ []))
    ∷ says_last (bytes (0xB3 ∷ 0x6D ∷ 0x00 ∷ 0x00 ∷ []))
    ∷ says_last silent
    ∷ says_last (bytes (0xB3 ∷ 0x67 ∷ 0x00 ∷ 0x00 ∷ []))
    ∷ []

-- the printed rows are what the definitions compute
abbrev pub PrintedRowsHold : Type 0
PrintedRowsHold = computed_rows ≡ printed_rows

-- ---- worked runs

-- a locked part of 8 pages, all of whose words are w
abbrev pub locked_part : ℕ → Part
locked_part w = started zero_identity (flash_of 8 (replicate 1024 w) lock_word)

-- the same, open
abbrev pub open_part : ℕ → Part
open_part w = started zero_identity (flash_of 8 (replicate 1024 w) unlock_word)

-- a locked part in the middle of an Unprotect: three pages done
abbrev pub halfway : List Event
halfway = greeting ++ (unprotect_frame ++ worked 3)

abbrev pub junk_page : List ℕ
junk_page = replicate 128 0x0BADF00D

abbrev pub computed_runs : List Fact
computed_runs =
    -- an Unprotect of 8 pages opens with the ninth work call, and not one call earlier
    stands_at (run (locked_part 0x12345678) (greeting ++ (unprotect_frame ++ (worked 9 ++ reset ∷ [])))).level
    ∷ stands_at (run (locked_part 0x12345678) (greeting ++ (unprotect_frame ++ (worked 9 ++ [])))).level
    ∷ stands_at (run (locked_part 0x12345678) (greeting ++ (unprotect_frame ++ (worked 8 ++ cut ∷ [])))).level
    ∷ reads (slice_index (run (locked_part 0x12345678) (greeting ++ (unprotect_frame ++ (worked 9 ++ reset ∷ [])))).flash.words 1023)
    -- a cut in each way inside the erase of page 3: the part stays locked; the page is as it was, blank, or junk
    ∷ stands_at (run (locked_part 0x12345678) (halfway ++ cut_work 518 old ∷ [])).level
    ∷ reads (slice_index (run (locked_part 0x12345678) (halfway ++ cut_work 518 old ∷ [])).flash.words 400)
    ∷ stands_at (run (locked_part 0x12345678) (halfway ++ cut_work 518 new ∷ [])).level
    ∷ reads (slice_index (run (locked_part 0x12345678) (halfway ++ cut_work 518 new ∷ [])).flash.words 400)
    ∷ stands_at (run (locked_part 0x12345678) (halfway ++ cut_work 518 (junk junk_page [] true) ∷ [])).level
    ∷ reads (slice_index (run (locked_part 0x12345678) (halfway ++ cut_work 518 (junk junk_page [] true) ∷ [])).flash.words 400)
    -- a Read tells a word at level 0, and is refused at level 1
    ∷ says_last (last_said (open_part 0x44332211) (greeting ++ read_start) read_end)
    ∷ says_last (last_said (locked_part 0x44332211) (greeting ++ read_start) read_end)
    -- the low byte of option word 0 alone tells the level
    ∷ stands_at (started zero_identity (flash_of 0 [] 0x123456AA)).level
    ∷ stands_at (started zero_identity (flash_of 0 [] 0xAA000000)).level
    -- a part with no page at all: the first work call of an Unprotect writes the option words
    ∷ says_last (last_said (started zero_identity (flash_of 0 [] lock_word)) (greeting ++ unprotect_frame) (work 518))
    ∷ []

abbrev pub expected_runs : List Fact
expected_runs =
    stands_at Open
    ∷ stands_at Locked
    ∷ stands_at Locked
    ∷ reads 0xFFFFFFFF
    ∷ stands_at Locked
    ∷ reads 0x12345678
    ∷ stands_at Locked
    ∷ reads 0xFFFFFFFF
    ∷ stands_at Locked
    ∷ reads 0x0BADF00D
    ∷ says_last (bytes (0xB3 ∷ 0x90 ∷ 0x00 ∷ 0x04 ∷ 0x11 ∷ 0x22 ∷ 0x33 ∷ 0x44 ∷ 0x0D ∷ 0xAD ∷ []))
    ∷ says_last (bytes (0xB3 ∷ 0x63 ∷ 0x00 ∷ 0x00 ∷ []))
    ∷ stands_at Open
    ∷ stands_at Locked
    ∷ says_last (bytes_and_ticket (0xB3 ∷ 0x90 ∷ 0x00 ∷ 0x00 ∷ []))
    ∷ []

abbrev pub WorkedRunsHold : Type 0
WorkedRunsHold = computed_runs ≡ expected_runs

-- two locked parts with other words agree in all but these
pub record TwinsExist : Type 0 where
  pub agree : outward (locked_part 1) ≡ outward (locked_part 2)
  pub locked : (locked_part 1).level ≡ Locked
  pub first : slice_index_or (locked_part 1).flash.words 0 0 ≡ 1
  pub second : slice_index_or (locked_part 2).flash.words 0 0 ≡ 2
