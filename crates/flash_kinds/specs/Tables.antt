-- Lent tables, and the meaning that they give a flash.
use Rattle.std.specs.Prelude.{◌≡◌, ℕ, ◌+◌, ◌-◌, ◌*◌, ◌/◌, ◌%◌, ◌≤◌, min, List, [], ◌∷◌, map, take, drop}
use Rattle.flash_kinds.specs.declared.record.PageRecord.{PageRecord}
use Rattle.flash.specs.Lists.{as_words}
use Rattle.flash.specs.Meaning.{Meaning}

-- the erases left by a record: allowed less made, or 0
abbrev pub left_of : PageRecord → ℕ
left_of r = r.allowed - r.made

-- a record after one more erase
abbrev pub once_more : PageRecord → PageRecord
once_more r = record { made = r.made + 1; allowed = r.allowed }

-- what stands in the place of a record that does not exist
abbrev pub no_record : PageRecord
no_record = record { made = 0; allowed = 0 }

-- how many pages a table of cells and a table of records, of these lengths, both fill, at most 1024
abbrev pub filled_pages : ℕ → ℕ → ℕ
filled_pages cells records = min (min (cells / 128) records) 1024

-- as many of them as make whole blocks of 8
abbrev pub whole_blocks : ℕ → ℕ
whole_blocks p = p / 8 * 8

-- p is the greatest multiple of 8, at most 1024, of which `Fills` holds
pub record Greatest (Fills : ℕ → Type 0) (p : ℕ) : Type 0 where
  pub eights : p % 8 ≡ 0
  pub most : p ≤ 1024
  pub fills : Fills p
  pub greatest : (q : ℕ) → q % 8 ≡ 0 → q ≤ 1024 → Fills q → q ≤ p

-- a table of cells and a table of records, of these lengths, fill q pages
abbrev pub Fill : ℕ → ℕ → ℕ → Type 0
Fill cells records q = (128 * q ≤ cells) × (q ≤ records)

-- what a table of cells and a table of records hold outside of the meaning, which no call alters: the cells
-- beyond the pages; of each record the erases allowed, and the erases made and left together; the erases made
-- of the records beyond the pages
abbrev pub outside_of : ℕ → List ℕ → List PageRecord → List (List ℕ)
outside_of pages cells records =
    drop (128 * pages) cells
    ∷ map (λ r. r.allowed) records
    ∷ map (λ r. r.made + left_of r) records
    ∷ map (λ r. r.made) (drop pages records)
    ∷ []

-- the meaning of tables: the words and erases left of the first `pages` pages
abbrev pub tables_meaning : ℕ → List ℕ → List ℕ → List ℕ → ℕ → Meaning
tables_meaning pages words lefts options writes = record {
  pages = pages;
  words = as_words (128 * pages) words;
  options = as_words 4 options;
  erases_left = take pages lefts;
  option_writes_left = writes;
}
