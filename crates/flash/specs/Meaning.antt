-- What a flash is known by. Everything that is said of a flash is said of its meaning.
use Rattle.std.specs.Prelude.{◌≡◌, ℕ, ◌-◌, ◌*◌, ◌%◌, ◌^◌, ◌<◌, ◌≤◌, List, [], length, replicate, slice_index, slice_set}
use Rattle.flash.specs.Lists.{overwritten, as_words}

-- `pages` pages of 128 words of 32 bits, which are numbered from 0 across all pages; four option words;
-- the erases left of each page; the option writes left.
pub record Meaning : Type 0 where
  pub pages : ℕ
  pub words : List ℕ
  pub options : List ℕ
  pub erases_left : List ℕ
  pub option_writes_left : ℕ

-- The limits that every flash keeps.
pub record Sound (m : Meaning) : Type 0 where
  pub eights : m.pages % 8 ≡ 0
  pub most : m.pages ≤ 1024
  pub filled : length m.words ≡ 128 * m.pages
  pub counted : length m.erases_left ≡ m.pages
  pub four : length m.options ≡ 4
  pub word_fits : (i : ℕ) → slice_index m.words i < 2 ^ 32
  pub option_fits : (i : ℕ) → slice_index m.options i < 2 ^ 32

-- an erased word, and an erased page
abbrev pub blank : ℕ
blank = 0xFFFFFFFF

unfoldable pub blank_page : List ℕ
blank_page = replicate 128 blank

-- the user words with the 128 words ws in page p
unfoldable pub page_written : ℕ → List ℕ → List ℕ → List ℕ
page_written p ws words = overwritten (128 * p) (as_words 128 ws) words

-- the meaning with its word i at the low 32 bits of v, all else as it was; as it was where there is no word i
abbrev pub with_word : ℕ → ℕ → Meaning → Meaning
with_word i v m = record m { words = slice_set m.words i (v % 2 ^ 32) }

-- the meaning with the words ws in page p
abbrev pub with_page : ℕ → List ℕ → Meaning → Meaning
with_page p ws m = record m { words = page_written p ws m.words }

-- the meaning with one erase less left of page p
abbrev pub with_erase_taken : ℕ → Meaning → Meaning
with_erase_taken p m = record m { erases_left = slice_set m.erases_left p (slice_index m.erases_left p - 1) }

-- the meaning with the four option words os
abbrev pub with_options : List ℕ → Meaning → Meaning
with_options os m = record m { options = as_words 4 os }

-- the meaning with one option write less left
abbrev pub with_option_write_taken : Meaning → Meaning
with_option_write_taken m = record m { option_writes_left = m.option_writes_left - 1 }

-- all that a flash is known by but its user words
abbrev pub without_words : Meaning → Meaning
without_words m = record m { words = [] }

-- What a flash that holds lent tables keeps besides its meaning: the names by which the checker knows the
-- lent references, and what the tables hold outside of the meaning.
pub record Lent : Type 0 where
  pub names : List ℕ
  pub outside : List (List ℕ)

-- a flash with no lent table
abbrev pub nothing_lent : Lent
nothing_lent = record { names = []; outside = [] }
