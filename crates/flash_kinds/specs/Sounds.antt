-- The pages of lent tables, and the limits that their meaning keeps.
use Rattle.std.specs.Prelude.{◌≡◌, ℕ, ◌%◌, ◌≤◌, min, List, map, length}
use Rattle.std.proofs.Common.{arith}
use Rattle.std.proofs.lemmas.List.{length-take, length-map}
use Rattle.flash_kinds.specs.declared.pair_flash.PairFlash.{PairFlash}
use Rattle.flash_kinds.specs.declared.word_flash.WordFlash.{WordFlash}
use Rattle.flash.specs.Meaning.{Sound}
use Rattle.flash.specs.Lists.{both}
use Rattle.flash_kinds.specs.Pair.{pair_meaning, pair_pages, joined_halves}
use Rattle.flash_kinds.specs.Tables.{tables_meaning, left_of, Greatest, Fill, filled_pages, whole_blocks}
use Rattle.flash_kinds.specs.Word.{word_meaning, word_pages}
use Rattle.flash.specs.Words.{length_both, length_as_words, as_words_fit}

-- the whole blocks in n pages, where the tables fill n pages and no more
greatest_blocks : (Fills : ℕ → Type 0) (n : ℕ) → n ≤ 1024 → ((q : ℕ) → q ≤ n → Fills q) →
    ((q : ℕ) → q ≤ 1024 → Fills q → q ≤ n) → Greatest Fills (whole_blocks n)
greatest_blocks Fills n most fills above = record {
  eights = omega arith;
  most = omega arith;
  fills = fills _ (omega arith);
  greatest = λ q e l f. omega (arith, above q l f);
}

pub word_greatest : (words records : ℕ) → Greatest (Fill words records) (word_pages words records)
word_greatest words records =
    greatest_blocks (Fill words records) (filled_pages words records) (omega arith)
    (λ q h. (omega arith, omega arith)) (λ q l f. omega arith)

pub tables_sound : (pages : ℕ) (words lefts options : List ℕ) (writes : ℕ) → pages % 8 ≡ 0 → pages ≤ 1024 →
    pages ≤ length lefts → Sound (tables_meaning pages words lefts options writes)
tables_sound pages words lefts options writes eights most has = record {
  eights = eights;
  most = most;
  filled = length_as_words _ words;
  counted = simp length-take (omega arith);
  four = length_as_words 4 options;
  word_fits = as_words_fit _ words;
  option_fits = as_words_fit 4 options;
}

pub word_sound : (f : WordFlash) → Sound (word_meaning f)
word_sound f =
    let g = word_greatest (length f.words.now) (length f.records.now) in
    tables_sound _ f.words.now (map left_of f.records.now) f.options.words _ g.eights g.most
    (simp length-map g.fills.1)

pub pair_greatest : (low high low_records_of high_records_of : ℕ) →
    Greatest (λ q. Fill low low_records_of q × Fill high high_records_of q) (pair_pages low high low_records_of high_records_of)
pair_greatest low high low_records_of high_records_of =
    greatest_blocks (λ q. Fill low low_records_of q × Fill high high_records_of q)
    (min (filled_pages low low_records_of) (filled_pages high high_records_of)) (omega arith)
    (λ q h. ((omega arith, omega arith), (omega arith, omega arith))) (λ q l f. omega arith)

pub pair_sound : (f : PairFlash) → Sound (pair_meaning f)
pair_sound f =
    let lows = f.low_records.now in
    let highs = f.high_records.now in
    let g = pair_greatest (length f.low.now) (length f.high.now) (length lows) (length highs) in
    let l = length-map lows left_of in
    let h = length-map highs left_of in
    tables_sound _ (both joined_halves f.low.now f.high.now) (both min (map left_of lows) (map left_of highs)) f.options.words _
    g.eights g.most (omega (arith, length_both min (map left_of lows) (map left_of highs), g.fills))
