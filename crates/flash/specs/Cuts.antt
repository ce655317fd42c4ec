-- What a power cut inside a call leaves of the write that the call would have made.
use Rattle.std.specs.Prelude.{ℕ, Bool, if◌then◌else◌, List, slice_index}
use Rattle.flash.specs.Meaning.{Meaning, with_word, with_page, with_erase_taken, with_options, with_option_write_taken}
use Rattle.flash.specs.Effects.{Write, no_write, program_word, erase_page, set_options, written}

-- old: the write never was. new: the write is whole. junk: the word, each word of the page or each option
-- word reads a word of its own, the first list for user words and the second for option words; the flag says
-- whether the erases or option writes left fall.
pub data Way : Type 0 where
  old : Way
  new : Way
  junk : List ℕ → List ℕ → Bool → Way

abbrev pub junk_written : List ℕ → List ℕ → Bool → Write → Meaning → Meaning
junk_written us os falls no_write m = m
junk_written us os falls (program_word i v) m = with_word i (slice_index us 0) m
junk_written us os falls (erase_page p) m =
    if falls then with_erase_taken p (with_page p us m) else with_page p us m
junk_written us os falls (set_options ws) m =
    if falls then with_option_write_taken (with_options os m) else with_options os m

abbrev pub cut_written : Way → Write → Meaning → Meaning
cut_written old w m = m
cut_written new w m = written w m
cut_written (junk us os falls) w m = junk_written us os falls w m
