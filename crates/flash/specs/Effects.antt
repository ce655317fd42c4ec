-- What each function of a flash answers, and which write it makes, as definitions of the meaning and the
-- arguments. Each test for a refusal stands once, in the `-case` of its function.
use Rattle.std.specs.Prelude.{ℕ, ◌*◌, if◌then◌else◌, List, Ok, Err, Result, ◌==◌, nat_lt, slice_index}
use Rattle.flash.specs.declared.fault.FlashFault.{FlashFault}
use Rattle.flash.specs.Faults.{no_page, no_word, no_option_word, word_not_erased, page_worn, options_worn}
use Rattle.flash.specs.Meaning.{Meaning, blank, blank_page, with_word, with_page, with_erase_taken, with_options, with_option_write_taken}

-- Questions: a number that does not exist is out of range.
abbrev pub word_answer : Meaning → ℕ → Result ℕ FlashFault
word_answer m i = if nat_lt i (128 * m.pages) then Ok (slice_index m.words i) else Err (no_word i)

abbrev pub option_word_answer : Meaning → ℕ → Result ℕ FlashFault
option_word_answer m i = if nat_lt i 4 then Ok (slice_index m.options i) else Err (no_option_word i)

abbrev pub erases_left_answer : Meaning → ℕ → Result ℕ FlashFault
erases_left_answer m p = if nat_lt p m.pages then Ok (slice_index m.erases_left p) else Err (no_page p)

-- The one write that a call makes, or none.
pub data Write : Type 0 where
  no_write : Write
  program_word : ℕ → ℕ → Write
  erase_page : ℕ → Write
  set_options : List ℕ → Write

-- what the whole write leaves
abbrev pub written : Write → Meaning → Meaning
written no_write m = m
written (program_word i v) m = with_word i v m
written (erase_page p) m = with_erase_taken p (with_page p blank_page m)
written (set_options os) m = with_option_write_taken (with_options os m)

-- Program: out of range, else not erased, else served.
abbrev pub program_case : {A : Type 0} → Meaning → ℕ → A → A → A → A
program_case m i range not_erased served =
    if nat_lt i (128 * m.pages) then if slice_index m.words i == blank then served else not_erased else range

abbrev pub program_answer : Meaning → ℕ → Result (Unit {0}) FlashFault
program_answer m i = program_case m i (Err (no_word i)) (Err (word_not_erased i)) (Ok tt)

abbrev pub program_write : Meaning → ℕ → ℕ → Write
program_write m i v = program_case m i no_write no_write (program_word i v)

abbrev pub program_leaves : Meaning → ℕ → ℕ → Meaning
program_leaves m i v = written (program_write m i v) m

-- Erase: out of range, else worn, else served.
abbrev pub erase_case : {A : Type 0} → Meaning → ℕ → A → A → A → A
erase_case m p range worn served =
    if nat_lt p m.pages then if slice_index m.erases_left p == 0 then worn else served else range

abbrev pub erase_answer : Meaning → ℕ → Result (Unit {0}) FlashFault
erase_answer m p = erase_case m p (Err (no_page p)) (Err (page_worn p)) (Ok tt)

abbrev pub erase_write : Meaning → ℕ → Write
erase_write m p = erase_case m p no_write no_write (erase_page p)

abbrev pub erase_leaves : Meaning → ℕ → Meaning
erase_leaves m p = written (erase_write m p) m

-- Option write: worn, else served.
abbrev pub options_case : {A : Type 0} → Meaning → A → A → A
options_case m worn served = if m.option_writes_left == 0 then worn else served

abbrev pub options_answer : Meaning → Result (Unit {0}) FlashFault
options_answer m = options_case m (Err options_worn) (Ok tt)

abbrev pub options_write : Meaning → List ℕ → Write
options_write m os = options_case m no_write (set_options os)

abbrev pub options_leaves : Meaning → List ℕ → Meaning
options_leaves m os = written (options_write m os) m
