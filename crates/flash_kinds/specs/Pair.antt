-- The meaning of a pair flash.
use Rattle.std.specs.Prelude.{ℕ, ◌+◌, ◌*◌, min, List, [], ◌∷◌, ◌++◌, map, length}
use Rattle.flash_kinds.specs.declared.record.PageRecord.{PageRecord}
use Rattle.flash_kinds.specs.declared.pair_flash.PairFlash.{PairFlash}
use Rattle.flash.specs.Lists.{both}
use Rattle.flash.specs.Meaning.{Meaning, Lent}
use Rattle.flash_kinds.specs.Tables.{tables_meaning, filled_pages, whole_blocks, left_of, outside_of}

-- a word of its two halves
abbrev pub joined_halves : ℕ → ℕ → ℕ
joined_halves low high = low + 65536 * high

-- its pages, from the lengths of its tables
abbrev pub pair_pages : ℕ → ℕ → ℕ → ℕ → ℕ
pair_pages low high low_records_of high_records_of = whole_blocks (min (filled_pages low low_records_of) (filled_pages high high_records_of))

-- its meaning, from its tables, its option words and its option writes left
abbrev pub pair_meaning_from : List ℕ → List ℕ → List PageRecord → List PageRecord → List ℕ → ℕ → Meaning
pair_meaning_from low high low_records_of high_records_of options writes =
    tables_meaning
    (pair_pages (length low) (length high) (length low_records_of) (length high_records_of))
    (both joined_halves low high)
    (both min (map left_of low_records_of) (map left_of high_records_of))
    options
    writes

abbrev pub pair_meaning : PairFlash → Meaning
pair_meaning f =
    pair_meaning_from f.low.now f.high.now f.low_records.now f.high_records.now f.options.words f.options.writes_left

-- what it keeps of its tables, each with its name
abbrev pub pair_lent_from : ℕ → ℕ → ℕ → ℕ → List ℕ → List ℕ → List PageRecord → List PageRecord → Lent
pair_lent_from name_l name_h name_lr name_hr low high low_records_of high_records_of =
    let pages = pair_pages (length low) (length high) (length low_records_of) (length high_records_of) in
    record {
      names = name_l ∷ name_h ∷ name_lr ∷ name_hr ∷ [];
      outside = outside_of pages low low_records_of ++ outside_of pages high high_records_of;
    }

abbrev pub pair_lent : PairFlash → Lent
pair_lent f =
    pair_lent_from f.low.ghost_name f.high.ghost_name f.low_records.ghost_name f.high_records.ghost_name
    f.low.now f.high.now f.low_records.now f.high_records.now
