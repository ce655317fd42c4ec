-- What one work call does: one portion of the command in hand.
use Rattle.std.specs.Prelude.{ℕ, ◌+◌, ◌-◌, ◌*◌, ◌/◌, min, cond, List, [], ◌∷◌, ◌++◌, length, take, drop, Some, Ok, Err, Option, Result, ◌==◌, bit_xor, nat_le, nat_lt}
use Rattle.checksum.specs.Crc.{feeds}
use Rattle.commands.specs.declared.kinds.Kind.TheVariants.{Write as WriteKind, MemoryCrc, Erase, Protect, Unprotect}
use Rattle.commands.specs.Kinds.{kind_byte}
use Rattle.areas.specs.Words.{word_at, bytes_of_words}
use Rattle.flash.specs.declared.fault.FlashFault.{FlashFault}
use Rattle.flash.specs.Effects.{Write, no_write, program_word, erase_page, set_options, program_answer, erase_answer, options_answer}
use Rattle.flash.specs.Meaning.{Meaning}
use Rattle.memory.specs.Reports.{in_memory}
use Rattle.part.specs.declared.report.CommandFault.{CommandFault}
use Rattle.part.specs.Levels.{lock_word, unlock_word}
use Rattle.part.specs.Parts.{Task, writing, setting, checking, erasing, protecting, Hand, none, unprotecting, doing}

-- how a portion ended
pub data Outcome : Type 0 where
  -- there is no command in hand
  idle : Outcome
  -- there is more to do
  going : Outcome
  -- that was the last portion
  done : Outcome
  -- that was the last portion, and the option words were written: the ticket is out
  done_ticket : Outcome
  -- a checksum that is not the one to compare with
  differs : Outcome
  -- the flash refused
  refused : FlashFault → Outcome

-- a portion: the one write that it makes, the command in hand then, and how it ended
pub record Portion : Type 0 where
  pub writes : Write
  pub hand : Hand
  pub outcome : Outcome

-- a write that the flash answered: refused, the command ends
abbrev pub written_as : Result (Unit {0}) FlashFault → Write → Hand → Outcome → Portion
written_as (Ok u) w hand outcome = record { writes = w; hand = hand; outcome = outcome }
written_as (Err fault) w hand outcome = record { writes = no_write; hand = none; outcome = refused fault }

-- a portion that writes nothing
abbrev pub unwritten : Hand → Outcome → Portion
unwritten hand outcome = record { writes = no_write; hand = hand; outcome = outcome }

-- the words of some bytes
abbrev pub words_from : List ℕ → List ℕ
words_from [] = []
words_from (a ∷ []) = []
words_from (a ∷ b ∷ []) = []
words_from (a ∷ b ∷ c ∷ []) = []
words_from (a ∷ b ∷ c ∷ d ∷ bytes) = word_at (a ∷ b ∷ c ∷ d ∷ []) 0 ∷ words_from bytes

-- option words with some replaced, from a number on; the others are kept
abbrev pub options_with : ℕ → List ℕ → List ℕ → List ℕ
options_with i words options = take i options ++ (words ++ drop (i + length words) options)

-- an option write: one portion
abbrev pub options_portion : Meaning → List ℕ → Portion
options_portion m words = written_as (options_answer m) (set_options words) none done_ticket

-- a Write's next word
abbrev pub write_portion : Meaning → ℕ → List ℕ → ℕ → Portion
write_portion m first bytes k =
    written_as (program_answer m (first + k)) (program_word (first + k) (word_at bytes (4 * k)))
    (cond (nat_le (length bytes / 4) (k + 1)) none (doing (writing first bytes (k + 1))))
    (cond (nat_le (length bytes / 4) (k + 1)) done going)

-- an Erase's next page; an Erase of no page at all has nothing to do
abbrev pub erase_portion : Meaning → ℕ → ℕ → ℕ → Portion
erase_portion m first count k =
    cond (nat_lt k count)
    (written_as (erase_answer m (first + k)) (erase_page (first + k))
    (cond (nat_le count (k + 1)) none (doing (erasing first count (k + 1))))
    (cond (nat_le count (k + 1)) done going))
    (unwritten none done)

-- the next words of a Memory CRC, at most 128, and its register after them
abbrev pub check_words : Meaning → ℕ → ℕ → ℕ → List ℕ
check_words m first count k = take (min 128 (count - k)) (drop (first + k) m.words)

abbrev pub check_register : Meaning → ℕ → ℕ → ℕ → ℕ → ℕ
check_register m first count k register = feeds register (bytes_of_words (check_words m first count k))

-- a Memory CRC's next portion; the last one compares
abbrev pub check_portion : Meaning → ℕ → ℕ → ℕ → ℕ → ℕ → Portion
check_portion m first count value k register =
    cond (nat_le count (k + 128))
    (unwritten none (cond (bit_xor (check_register m first count k register) 0xFFFF == value) done differs))
    (unwritten (doing (checking first count value (k + 128) (check_register m first count k register))) going)

abbrev pub task_portion : Task → Meaning → Portion
task_portion (writing first bytes k) m = write_portion m first bytes k
task_portion (setting i bytes) m = options_portion m (options_with i (words_from bytes) m.options)
task_portion (checking first count value k register) m = check_portion m first count value k register
task_portion (erasing first count k) m = erase_portion m first count k
task_portion protecting m = options_portion m (options_with 0 (lock_word ∷ []) m.options)

-- an Unprotect erases page after page, and only then opens the option words
abbrev pub unprotect_portion : Meaning → ℕ → Portion
unprotect_portion m k =
    cond (nat_lt k m.pages)
    (written_as (erase_answer m k) (erase_page k) (unprotecting (k + 1)) going)
    (options_portion m (options_with 0 (unlock_word ∷ []) m.options))

-- the portion of the command in hand
abbrev pub portion : Hand → Meaning → Portion
portion none m = unwritten none idle
portion (unprotecting k) m = unprotect_portion m k
portion (doing task) m = task_portion task m

-- the command's byte, for a fault report
abbrev pub task_byte : Task → ℕ
task_byte (writing first bytes k) = kind_byte WriteKind
task_byte (setting i bytes) = kind_byte WriteKind
task_byte (checking first count value k register) = kind_byte MemoryCrc
task_byte (erasing first count k) = kind_byte Erase
task_byte protecting = kind_byte Protect

abbrev pub hand_byte : Hand → ℕ
hand_byte none = 0
hand_byte (unprotecting k) = kind_byte Unprotect
hand_byte (doing task) = task_byte task

-- the fault report of a refusal: the flash's refusal whole, its address, the command
abbrev pub report : Hand → FlashFault → CommandFault
report hand fault = record { memory = in_memory fault; command = hand_byte hand }

-- the last fault report after a portion: a refusal makes a new one, all else leaves it
abbrev pub reported : Hand → Outcome → Option CommandFault → Option CommandFault
reported hand idle last = last
reported hand going last = last
reported hand done last = last
reported hand done_ticket last = last
reported hand differs last = last
reported hand (refused fault) last = Some (report hand fault)
