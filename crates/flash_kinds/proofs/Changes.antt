-- What a change of the tables does to their meaning.
use Rattle.std.proofs.Common.{◌≡◌, ℕ, ◌+◌, ◌-◌, ◌*◌, ◌%◌, ◌^◌, ◌<◌, ◌≤◌, List, [], ◌∷◌, map, length, get_or, take, set, replicate, sym, refl, ap, ◌∙◌, mod-eq_of_lt, arith}
use Rattle.std.proofs.Math.ListN.{get_or-map}
use Rattle.std.proofs.Math.Seq.{take-set-lt, map-set_same}
use Rattle.std.proofs.lemmas.List.{get_or-take, map-set, drop-set-lt}
use Rattle.flash_kinds.specs.declared.record.PageRecord.{PageRecord}
use Rattle.flash.specs.Lists.{overwritten, as_words}
use Rattle.flash.specs.Words.{get_or_as_words, as_words_set, as_words_overwritten}
use Rattle.flash.specs.Meaning.{Meaning, blank, blank_page, page_written}
use Rattle.flash.specs.Effects.{written, program_word, erase_page}
use Rattle.flash_kinds.specs.Tables.{tables_meaning, left_of, once_more, no_record, outside_of}
use Rattle.flash.proofs.Overwrites.{drop_overwritten}

-- a word of 32 bits as it was read
pub read_as_word : (n : ℕ) (ws : List ℕ) (i r : ℕ) → i < n → r < 2 ^ 32 → r ≡ get_or ws i 0 →
    r ≡ get_or (as_words n ws) i 0
read_as_word n ws i r h f e = sym (get_or_as_words n ws i h ∙ ap (λ x. x % 2 ^ 32) (sym e) ∙ mod-eq_of_lt f)

-- the erases left of a page of the first n
pub left_within : (n : ℕ) (rs : List PageRecord) (p : ℕ) → p < n →
    get_or (take n (map left_of rs)) p 0 ≡ left_of (get_or rs p no_record)
left_within n rs p h = get_or-take n (map left_of rs) p 0 h ∙ get_or-map left_of rs p no_record

-- one more erase made is one less left
pub lefts_once_more : (rs after : List PageRecord) (p : ℕ) → after ≡ set rs p (once_more (get_or rs p no_record)) →
    map left_of after ≡ set (map left_of rs) p (get_or (map left_of rs) p 0 - 1)
lefts_once_more rs after p a =
    let r = get_or rs p no_record in
    let less : left_of (once_more r) ≡ left_of r - 1 = omega arith in
    let at = get_or-map left_of rs p no_record in
    let e = map-set left_of rs p (once_more r) in
    ap (λ xs. map left_of xs) a ∙ e ∙ ap (λ x. set (map left_of rs) p x) (less ∙ ap (λ x. x - 1) (sym at))

-- two meanings with the same parts are one
same_meaning : (m n : Meaning) → m.pages ≡ n.pages → m.words ≡ n.words → m.options ≡ n.options →
    m.erases_left ≡ n.erases_left → m.option_writes_left ≡ n.option_writes_left → m ≡ n
same_meaning m n p w o e l =
    λ j. record { pages = p j; words = w j; options = o j; erases_left = e j; option_writes_left = l j }

-- the meaning of tables after a cell of a page was set, and after a page was erased
module _ (pages pages' : ℕ) (words words' lefts lefts' options : List ℕ) (writes : ℕ) where
  pub tables_programmed : (i v : ℕ) → pages' ≡ pages → words' ≡ set words i v → lefts' ≡ lefts → i < length words →
      tables_meaning pages' words' lefts' options writes
      ≡ written (program_word i v) (tables_meaning pages words lefts options writes)
  tables_programmed i v ps ws ls h =
      (λ j. tables_meaning (ps j) (ws j) (ls j) options writes)
      ∙ same_meaning _ _ refl (as_words_set (128 * pages) words i v h) refl refl refl

  pub tables_erased : (p : ℕ) → pages' ≡ pages → words' ≡ overwritten (128 * p) (replicate 128 blank) words →
      lefts' ≡ set lefts p (get_or lefts p 0 - 1) → p < pages → 128 * pages ≤ length words →
      tables_meaning pages' words' lefts' options writes
      ≡ written (erase_page p) (tables_meaning pages words lefts options writes)
  unfolding page_written blank_page
  tables_erased p ps ws ls h l =
      let left = take-set-lt pages lefts p _ h ∙ ap (λ x. set (take pages lefts) p (x - 1)) (sym (get_or-take pages lefts p 0 h)) in
      (λ j. tables_meaning (ps j) (ws j) (ls j) options writes)
      ∙ same_meaning _ _ refl (as_words_overwritten (128 * p) (replicate 128 blank) (128 * pages) words l) refl left refl

pub outside_erased : (blank pages pages' : ℕ) (cells cells' : List ℕ) (records records' : List PageRecord) (p : ℕ) →
    pages' ≡ pages → cells' ≡ overwritten (128 * p) (replicate 128 blank) cells →
    records' ≡ set records p (once_more (get_or records p no_record)) → p < pages → 0 < left_of (get_or records p no_record) →
    outside_of pages' cells' records' ≡ outside_of pages cells records
outside_erased blank pages pages' cells cells' records records' p ps cs rs h l =
    let r = get_or records p no_record in
    let within : 128 * p + 128 ≤ 128 * pages = omega arith in
    let both : r.made + 1 + left_of (once_more r) ≡ r.made + left_of r = omega arith in
    let rest = drop_overwritten (128 * pages) (128 * p) (replicate 128 blank) cells within in
    let allowed = map-set_same (λ y. y.allowed) records p (once_more r) no_record refl in
    let total = map-set_same (λ y. y.made + left_of y) records p (once_more r) no_record both in
    let made = ap (λ xs. map (λ y. y.made) xs) (drop-set-lt pages records p (once_more r) h) in
    (λ j. outside_of (ps j) (cs j) (rs j)) ∙ (λ j. rest j ∷ allowed j ∷ total j ∷ made j ∷ [])
