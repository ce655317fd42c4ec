-- Laws of the meaning, its effects and its power cuts, which every flash keeps since it keeps the interface.
use Rattle.std.specs.Prelude.{◌≡◌, ℕ, ◌+◌, ◌*◌, ◌%◌, ◌^◌, ◌<◌, ◌≤◌, Bool, List, Ok, Err, slice_index}
use Rattle.flash.specs.declared.fault.FlashFault.{FlashFault}
use Rattle.flash.specs.Meaning.{Meaning, Sound, blank}
use Rattle.flash.specs.Effects.{Write, no_write, program_word, erase_page, set_options, word_answer, option_word_answer, program_answer, program_leaves, program_write, erase_answer, erase_leaves, erase_write, options_answer, options_leaves, options_write}
use Rattle.flash.specs.Cuts.{Way, junk, cut_written}

-- the user words, the page whose erases left, and the option words that a write names
abbrev pub NamesWord : Write → ℕ → Type 0
NamesWord no_write i = ⊥
NamesWord (program_word k v) i = i ≡ k
NamesWord (erase_page p) i = (128 * p ≤ i) × (i < 128 * p + 128)
NamesWord (set_options os) i = ⊥

abbrev pub NamesPage : Write → ℕ → Type 0
NamesPage no_write q = ⊥
NamesPage (program_word k v) q = ⊥
NamesPage (erase_page p) q = q ≡ p
NamesPage (set_options os) q = ⊥

abbrev pub NamesOptions : Write → Type 0
NamesOptions no_write = ⊥
NamesOptions (program_word k v) = ⊥
NamesOptions (erase_page p) = ⊥
NamesOptions (set_options os) = Unit {0}

-- n is m but for what the write names
pub record AltersOnly (w : Write) (m n : Meaning) : Type 0 where
  pub pages : n.pages ≡ m.pages
  pub words : (i : ℕ) → (NamesWord w i → ⊥) → slice_index n.words i ≡ slice_index m.words i
  pub erases_left : (p : ℕ) → (NamesPage w p → ⊥) → slice_index n.erases_left p ≡ slice_index m.erases_left p
  pub options : (NamesOptions w → ⊥) → n.options ≡ m.options
  pub option_writes_left : (NamesOptions w → ⊥) → n.option_writes_left ≡ m.option_writes_left

-- Whatever the way of a cut, and so for the whole write too, nothing alters but what the write names.
abbrev pub CutsAlterOnlyTheirWrite : Type 0
CutsAlterOnlyTheirWrite = (y : Way) (w : Write) (m : Meaning) → AltersOnly w m (cut_written y w m)

-- Every write and every cut of it keeps the limits of a flash.
abbrev pub CutsKeepLimits : Type 0
CutsKeepLimits = (y : Way) (w : Write) (m : Meaning) → Sound m → Sound (cut_written y w m)

-- A refused call makes no write, so that no cut of it alters anything.
pub record RefusalsWriteNothing : Type 0 where
  pub program : (m : Meaning) (i v : ℕ) (f : FlashFault) → program_answer m i ≡ Err f → program_write m i v ≡ no_write
  pub erase : (m : Meaning) (p : ℕ) (f : FlashFault) → erase_answer m p ≡ Err f → erase_write m p ≡ no_write
  pub options : (m : Meaning) (os : List ℕ) (f : FlashFault) → options_answer m ≡ Err f → options_write m os ≡ no_write

-- What a served call wrote is read back, and what a cut left as junk.
pub record WritesAreReadBack : Type 0 where
  pub program : (m : Meaning) (i v : ℕ) → Sound m → program_answer m i ≡ Ok tt →
      word_answer (program_leaves m i v) i ≡ Ok (v % 2 ^ 32)
  pub erase : (m : Meaning) (p k : ℕ) → Sound m → erase_answer m p ≡ Ok tt → k < 128 →
      word_answer (erase_leaves m p) (128 * p + k) ≡ Ok blank
  pub options : (m : Meaning) (os : List ℕ) (k : ℕ) → options_answer m ≡ Ok tt → k < 4 →
      option_word_answer (options_leaves m os) k ≡ Ok (slice_index os k % 2 ^ 32)
  pub junk_page : (m : Meaning) (p k : ℕ) (us os : List ℕ) (falls : Bool) → Sound m → p < m.pages → k < 128 →
      word_answer (cut_written (junk us os falls) (erase_page p) m) (128 * p + k) ≡ Ok (slice_index us k % 2 ^ 32)
  pub junk_word : (m : Meaning) (i v : ℕ) (us os : List ℕ) (falls : Bool) → Sound m → i < 128 * m.pages →
      word_answer (cut_written (junk us os falls) (program_word i v) m) i ≡ Ok (slice_index us 0 % 2 ^ 32)
