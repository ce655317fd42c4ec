-- Worked power cuts, as one computed list.
use Rattle.std.specs.Prelude.{◌≡◌, ℕ, Bool, true, false, ◌&&◌, List, [], ◌∷◌, replicate, ◌==◌, slice_index}
use Rattle.flash.specs.Meaning.{Meaning, blank}
use Rattle.flash.specs.Effects.{program_write, erase_write, erase_leaves, options_write}
use Rattle.flash.specs.Cuts.{Way, old, new, junk, cut_written}
use Rattle.flash_kinds.specs.Word.{word_meaning_from}

-- eight pages of words that read 5; two erases left of page 0, none of page 1, three of the others; one option write
abbrev sample : Meaning
sample =
    word_meaning_from (replicate 1024 5)
    (record { made = 1; allowed = 3 } ∷ record { made = 3; allowed = 3 } ∷ replicate 6 (record { made = 0; allowed = 3 }))
    (0xAA ∷ 0 ∷ 0 ∷ 0 ∷ [])
    1

-- the same with no option write left, and with page 0 erased
abbrev spent : Meaning
spent = cut_written new (options_write sample (0xAA ∷ 0 ∷ 0 ∷ 0 ∷ [])) sample

abbrev erased : Meaning
erased = erase_leaves sample 0

abbrev words_read : Meaning → List ℕ → List ℕ → Bool
words_read m [] [] = true
words_read m [] (v ∷ vs) = false
words_read m (i ∷ is) [] = false
words_read m (i ∷ is) (v ∷ vs) = slice_index m.words i == v && words_read m is vs

-- a cut of an erase of page p: what words 0, 1, 2, 127, 128 and 1023 read then, and the erases left of p
abbrev erase_row : Way → ℕ → List ℕ → ℕ → Bool
erase_row y p vs left =
    let m = cut_written y (erase_write sample p) sample in
    words_read m (0 ∷ 1 ∷ 2 ∷ 127 ∷ 128 ∷ 1023 ∷ []) vs && slice_index m.erases_left p == left

-- a cut of a program of word 3 with 1: what words 2 to 4 read then
abbrev program_row : Meaning → Way → List ℕ → Bool
program_row m y vs = words_read (cut_written y (program_write m 3 1) m) (2 ∷ 3 ∷ 4 ∷ []) vs

-- a cut of an option write of 1, 2, 3, 4: the first and the last option word, and the option writes left
abbrev options_row : Meaning → Way → ℕ → ℕ → ℕ → Bool
options_row m y first last left =
    let n = cut_written y (options_write m (1 ∷ 2 ∷ 3 ∷ 4 ∷ [])) m in
    (slice_index n.options 0 == first) && slice_index n.options 3 == last && n.option_writes_left == left

abbrev cut_rows : List Bool
cut_rows =
    -- an erase: never, whole, and as junk with the count taken or not; the list gives 7, 8, and 0 from there on
    erase_row old 0 (5 ∷ 5 ∷ 5 ∷ 5 ∷ 5 ∷ 5 ∷ []) 2
    ∷ erase_row new 0 (blank ∷ blank ∷ blank ∷ blank ∷ 5 ∷ 5 ∷ []) 1
    ∷ erase_row (junk (7 ∷ 8 ∷ []) [] true) 0 (7 ∷ 8 ∷ 0 ∷ 0 ∷ 5 ∷ 5 ∷ []) 1
    ∷ erase_row (junk (7 ∷ 8 ∷ []) [] false) 0 (7 ∷ 8 ∷ 0 ∷ 0 ∷ 5 ∷ 5 ∷ []) 2
    -- a junk word of more than 32 bits counts by its low 32
    ∷ erase_row (junk (0x100000009 ∷ []) [] true) 0 (9 ∷ 0 ∷ 0 ∷ 0 ∷ 5 ∷ 5 ∷ []) 1
    -- an erase that would be refused, worn or out of range, is never altered by a cut
    ∷ erase_row (junk (7 ∷ 8 ∷ []) [] true) 1 (5 ∷ 5 ∷ 5 ∷ 5 ∷ 5 ∷ 5 ∷ []) 0
    ∷ erase_row (junk (7 ∷ 8 ∷ []) [] true) 8 (5 ∷ 5 ∷ 5 ∷ 5 ∷ 5 ∷ 5 ∷ []) 0
    -- a program of an erased word, and of one that is not
    ∷ program_row erased old (blank ∷ blank ∷ blank ∷ [])
    ∷ program_row erased new (blank ∷ 1 ∷ blank ∷ [])
    ∷ program_row erased (junk (9 ∷ 8 ∷ []) [] true) (blank ∷ 9 ∷ blank ∷ [])
    ∷ program_row sample (junk (9 ∷ 8 ∷ []) [] true) (5 ∷ 5 ∷ 5 ∷ [])
    -- an option write: junk is in all four words
    ∷ options_row sample old 0xAA 0 1
    ∷ options_row sample new 1 4 0
    ∷ options_row sample (junk [] (0x123456AA ∷ 0 ∷ 0 ∷ 6 ∷ []) true) 0x123456AA 6 0
    ∷ options_row sample (junk [] (0x123456AA ∷ 0 ∷ 0 ∷ 6 ∷ []) false) 0x123456AA 6 1
    ∷ options_row spent (junk [] (0x123456AA ∷ 0 ∷ 0 ∷ 6 ∷ []) true) 0xAA 0 0
    ∷ []

abbrev all_hold : List Bool → Bool
all_hold [] = true
all_hold (b ∷ bs) = b && all_hold bs

abbrev pub CutRowsHold : Type 0
CutRowsHold = all_hold cut_rows ≡ true
