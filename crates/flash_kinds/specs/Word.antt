-- The meaning of a word flash.
use Rattle.std.specs.Prelude.{ℕ, List, [], ◌∷◌, map, length}
use Rattle.flash_kinds.specs.declared.record.PageRecord.{PageRecord}
use Rattle.flash_kinds.specs.declared.word_flash.WordFlash.{WordFlash}
use Rattle.flash.specs.Meaning.{Meaning, Lent}
use Rattle.flash_kinds.specs.Tables.{tables_meaning, filled_pages, whole_blocks, left_of, outside_of}

-- its pages, from the lengths of its tables
abbrev pub word_pages : ℕ → ℕ → ℕ
word_pages words records = whole_blocks (filled_pages words records)

-- its meaning, from its tables, its option words and its option writes left
abbrev pub word_meaning_from : List ℕ → List PageRecord → List ℕ → ℕ → Meaning
word_meaning_from words records options writes =
    tables_meaning (word_pages (length words) (length records)) words (map left_of records) options writes

abbrev pub word_meaning : WordFlash → Meaning
word_meaning f = word_meaning_from f.words.now f.records.now f.options.words f.options.writes_left

-- what it keeps of its tables, each with its name
abbrev pub word_lent_from : ℕ → ℕ → List ℕ → List PageRecord → Lent
word_lent_from name_w name_r words records =
    record {
      names = name_w ∷ name_r ∷ [];
      outside = outside_of (word_pages (length words) (length records)) words records;
    }

abbrev pub word_lent : WordFlash → Lent
word_lent f = word_lent_from f.words.ghost_name f.records.ghost_name f.words.now f.records.now
