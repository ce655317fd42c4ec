-- The proofs of the laws.
use Rattle.std.proofs.Common.{◌≡◌, ℕ, zero, suc, ◌+◌, ◌*◌, ◌%◌, ◌^◌, ◌<◌, ◌≤◌, Bool, true, false, List, [], ◌∷◌, length, get_or, set, Ok, sym, refl, ap, ◌∙◌, mod-lt, arith, lit<}
use Rattle.std.proofs.lemmas.List.{get_or-set_same, get_or-set_other, length-set, get_or-replicate}
use Rattle.std.proofs.lemmas.Bool.Decides.{nat_tests}
use Rattle.flash.specs.Lists.{overwritten, as_words}
use Rattle.flash.specs.Words.{length_as_words, as_words_fit, get_or_as_words}
use Rattle.flash.specs.Meaning.{Meaning, Sound, blank, blank_page, page_written, with_word, with_page, with_erase_taken, with_options, with_option_write_taken}
use Rattle.flash.specs.Effects.{Write, no_write, program_word, erase_page, set_options, written, word_answer, option_word_answer, program_answer, program_leaves, erase_answer, erase_leaves, options_answer, options_leaves}
use Rattle.flash.specs.Cuts.{old, new, junk, cut_written}
use Rattle.flash.specs.Laws.{AltersOnly, CutsAlterOnlyTheirWrite, CutsKeepLimits, WritesAreReadBack}
use Rattle.flash.proofs.Overwrites.{length_overwritten, get_or_overwritten_in, get_or_overwritten_out}

-- the words with a page written
page_out : (p i : ℕ) (ws xs : List ℕ) → ((128 * p ≤ i) × (i < 128 * p + 128) → ⊥) →
    get_or (page_written p ws xs) i 0 ≡ get_or xs i 0
unfolding page_written
page_out p i ws xs h =
    let l = length_as_words 128 ws in
    get_or_overwritten_out (128 * p) i (as_words 128 ws) xs 0 (λ k. h (k.0, omega (arith, l)))

page_in : (p k : ℕ) (ws xs : List ℕ) → k < 128 → 128 * p + k < length xs →
    get_or (page_written p ws xs) (128 * p + k) 0 ≡ get_or ws k 0 % 2 ^ 32
unfolding page_written
page_in p k ws xs h l =
    let e = length_as_words 128 ws in
    get_or_overwritten_in (128 * p) k (as_words 128 ws) xs 0 (omega arith) l ∙ get_or_as_words 128 ws k h

length_page : (p : ℕ) (ws xs : List ℕ) → length (page_written p ws xs) ≡ length xs
unfolding page_written
length_page p ws xs = length_overwritten (128 * p) (as_words 128 ws) xs

-- a list whose elements are below b keeps that where one is set, and where others are written over it
set_below : (b : ℕ) (xs : List ℕ) (i v : ℕ) → ((k : ℕ) → get_or xs k 0 < b) → v < b → (k : ℕ) → get_or (set xs i v) k 0 < b
set_below b [] i v h l k = h k
set_below b (x ∷ xs) zero v h l zero = l
set_below b (x ∷ xs) zero v h l (suc k) = h (suc k)
set_below b (x ∷ xs) (suc i) v h l zero = h 0
set_below b (x ∷ xs) (suc i) v h l (suc k) = set_below b xs i v (λ j. h (suc j)) l k

overwritten_below : (b n : ℕ) (ws xs : List ℕ) → ((k : ℕ) → get_or ws k 0 < b) → ((k : ℕ) → get_or xs k 0 < b) → (k : ℕ) →
    get_or (overwritten n ws xs) k 0 < b
overwritten_below b zero [] xs g h k = h k
overwritten_below b zero (w ∷ ws) [] g h k = h k
overwritten_below b zero (w ∷ ws) (x ∷ xs) g h zero = g 0
overwritten_below b zero (w ∷ ws) (x ∷ xs) g h (suc k) = overwritten_below b zero ws xs (λ j. g (suc j)) (λ j. h (suc j)) k
overwritten_below b (suc n) ws [] g h k = h k
overwritten_below b (suc n) ws (x ∷ xs) g h zero = h 0
overwritten_below b (suc n) ws (x ∷ xs) g h (suc k) = overwritten_below b n ws xs g (λ j. h (suc j)) k

page_below : (p : ℕ) (ws xs : List ℕ) → ((k : ℕ) → get_or xs k 0 < 2 ^ 32) → (k : ℕ) → get_or (page_written p ws xs) k 0 < 2 ^ 32
unfolding page_written
page_below p ws xs h = overwritten_below (2 ^ 32) (128 * p) (as_words 128 ws) xs (as_words_fit 128 ws) h

-- each change keeps the limits
module _ (m : Meaning) (s : Sound m) where
  word_sound : (i v : ℕ) → Sound (with_word i v m)
  word_sound i v = record {
    eights = s.eights;
    most = s.most;
    filled = length-set m.words i _ ∙ s.filled;
    counted = s.counted;
    four = s.four;
    word_fits = set_below (2 ^ 32) m.words i _ s.word_fits (mod-lt v (lit< tt));
    option_fits = s.option_fits;
  }

  page_sound : (p : ℕ) (ws : List ℕ) → Sound (with_page p ws m)
  page_sound p ws = record {
    eights = s.eights;
    most = s.most;
    filled = length_page p ws m.words ∙ s.filled;
    counted = s.counted;
    four = s.four;
    word_fits = page_below p ws m.words s.word_fits;
    option_fits = s.option_fits;
  }

  erase_taken_sound : (p : ℕ) → Sound (with_erase_taken p m)
  erase_taken_sound p = record {
    eights = s.eights;
    most = s.most;
    filled = s.filled;
    counted = length-set m.erases_left p _ ∙ s.counted;
    four = s.four;
    word_fits = s.word_fits;
    option_fits = s.option_fits;
  }

  options_sound : (os : List ℕ) → Sound (with_options os m)
  options_sound os = record {
    eights = s.eights;
    most = s.most;
    filled = s.filled;
    counted = s.counted;
    four = length_as_words 4 os;
    word_fits = s.word_fits;
    option_fits = as_words_fit 4 os;
  }

  option_write_taken_sound : Sound (with_option_write_taken m)
  option_write_taken_sound = record {
    eights = s.eights;
    most = s.most;
    filled = s.filled;
    counted = s.counted;
    four = s.four;
    word_fits = s.word_fits;
    option_fits = s.option_fits;
  }

pub cuts_keep_limits : CutsKeepLimits
cuts_keep_limits old w m s = s
cuts_keep_limits new no_write m s = s
cuts_keep_limits new (program_word i v) m s = word_sound m s i v
cuts_keep_limits new (erase_page p) m s = erase_taken_sound _ (page_sound m s p blank_page) p
cuts_keep_limits new (set_options os) m s = option_write_taken_sound _ (options_sound m s os)
cuts_keep_limits (junk us os falls) no_write m s = s
cuts_keep_limits (junk us os falls) (program_word i v) m s = word_sound m s i _
cuts_keep_limits (junk us os true) (erase_page p) m s = erase_taken_sound _ (page_sound m s p us) p
cuts_keep_limits (junk us os false) (erase_page p) m s = page_sound m s p us
cuts_keep_limits (junk us os true) (set_options ws) m s = option_write_taken_sound _ (options_sound m s os)
cuts_keep_limits (junk us os false) (set_options ws) m s = options_sound m s os

-- each change alters only what it names
alters_nothing : (w : Write) (m : Meaning) → AltersOnly w m m
alters_nothing w m = record {
  pages = refl;
  words = λ _ _. refl;
  erases_left = λ _ _. refl;
  options = λ _. refl;
  option_writes_left = λ _. refl;
}

alters_word : (i v u : ℕ) (m : Meaning) → AltersOnly (program_word i v) m (with_word i u m)
alters_word i v u m = record {
  pages = refl;
  words = λ k n. get_or-set_other m.words i k _ 0 n;
  erases_left = λ _ _. refl;
  options = λ _. refl;
  option_writes_left = λ _. refl;
}

alters_page : (p : ℕ) (ws : List ℕ) (m : Meaning) → AltersOnly (erase_page p) m (with_page p ws m)
alters_page p ws m = record {
  pages = refl;
  words = λ k n. page_out p k ws m.words n;
  erases_left = λ _ _. refl;
  options = λ _. refl;
  option_writes_left = λ _. refl;
}

alters_erased : (p : ℕ) (ws : List ℕ) (m : Meaning) →
    AltersOnly (erase_page p) m (with_erase_taken p (with_page p ws m))
alters_erased p ws m = record {
  pages = refl;
  words = λ k n. page_out p k ws m.words n;
  erases_left = λ q n. get_or-set_other m.erases_left p q _ 0 n;
  options = λ _. refl;
  option_writes_left = λ _. refl;
}

alters_options : (ws : List ℕ) (m n : Meaning) → n.pages ≡ m.pages → n.words ≡ m.words →
    n.erases_left ≡ m.erases_left → AltersOnly (set_options ws) m n
alters_options ws m n ps us es = record {
  pages = ps;
  words = λ k _. ap (λ xs. get_or xs k 0) us;
  erases_left = λ q _. ap (λ xs. get_or xs q 0) es;
  options = λ e. absurd (e tt);
  option_writes_left = λ e. absurd (e tt);
}

pub cuts_alter_only_their_write : CutsAlterOnlyTheirWrite
cuts_alter_only_their_write old w m = alters_nothing w m
cuts_alter_only_their_write new no_write m = alters_nothing no_write m
cuts_alter_only_their_write new (program_word i v) m = alters_word i v v m
cuts_alter_only_their_write new (erase_page p) m = alters_erased p blank_page m
cuts_alter_only_their_write new (set_options os) m = alters_options os m _ refl refl refl
cuts_alter_only_their_write (junk us os falls) no_write m = alters_nothing no_write m
cuts_alter_only_their_write (junk us os falls) (program_word i v) m = alters_word i v _ m
cuts_alter_only_their_write (junk us os true) (erase_page p) m = alters_erased p us m
cuts_alter_only_their_write (junk us os false) (erase_page p) m = alters_page p us m
cuts_alter_only_their_write (junk us os true) (set_options ws) m = alters_options ws m _ refl refl refl
cuts_alter_only_their_write (junk us os false) (set_options ws) m = alters_options ws m _ refl refl refl

-- what is read back
word_read : (m : Meaning) (i r : ℕ) → i < 128 * m.pages → r ≡ get_or m.words i 0 → Ok r ≡ word_answer m i
word_read m i r h e = grind (arith, nat_tests)

option_read : (m : Meaning) (i r : ℕ) → i < 4 → r ≡ get_or m.options i 0 → Ok r ≡ option_word_answer m i
option_read m i r h e = grind (arith, nat_tests)

program_read : (m : Meaning) (i v : ℕ) → Sound m → program_answer m i ≡ Ok tt →
    word_answer (program_leaves m i v) i ≡ Ok (v % 2 ^ 32)
program_read m i v s e =
    let below : i < 128 * m.pages = grind (arith, nat_tests) in
    let has : i < length m.words = omega (arith, s.filled) in
    let done : program_leaves m i v ≡ with_word i v m = grind (arith, nat_tests) in
    ap (λ n. word_answer n i) done
    ∙ sym (word_read (with_word i v m) i _ below (sym (get_or-set_same m.words i _ 0 has)))

page_read : (m n : Meaning) (p k : ℕ) (ws : List ℕ) → Sound m → n.pages ≡ m.pages →
    n.words ≡ page_written p ws m.words → p < m.pages → k < 128 → word_answer n (128 * p + k) ≡ Ok (get_or ws k 0 % 2 ^ 32)
page_read m n p k ws s ps e h l =
    let has : 128 * p + k < length m.words = omega (arith, s.filled) in
    let below : 128 * p + k < 128 * n.pages = omega arith in
    sym (word_read n (128 * p + k) _ below (sym (ap (λ xs. get_or xs (128 * p + k) 0) e ∙ page_in p k ws m.words l has)))

erase_read : (m : Meaning) (p k : ℕ) → Sound m → erase_answer m p ≡ Ok tt → k < 128 →
    word_answer (erase_leaves m p) (128 * p + k) ≡ Ok blank
unfolding blank_page
erase_read m p k s e l =
    let below : p < m.pages = grind (arith, nat_tests) in
    let done : erase_leaves m p ≡ written (erase_page p) m = grind (arith, nat_tests) in
    ap (λ n. word_answer n (128 * p + k)) done
    ∙ page_read m (written (erase_page p) m) p k blank_page s refl refl below l
    ∙ ap (λ w. Ok (w % 2 ^ 32)) (get_or-replicate 128 k blank 0 l)

options_read : (m : Meaning) (os : List ℕ) (k : ℕ) → options_answer m ≡ Ok tt → k < 4 →
    option_word_answer (options_leaves m os) k ≡ Ok (get_or os k 0 % 2 ^ 32)
options_read m os k e l =
    let done : options_leaves m os ≡ written (set_options os) m = grind (arith, nat_tests) in
    ap (λ n. option_word_answer n k) done
    ∙ sym (option_read (written (set_options os) m) k _ l (sym (get_or_as_words 4 os k l)))

junk_read : (m : Meaning) (p k : ℕ) (us os : List ℕ) (falls : Bool) → Sound m → p < m.pages → k < 128 →
    word_answer (cut_written (junk us os falls) (erase_page p) m) (128 * p + k) ≡ Ok (get_or us k 0 % 2 ^ 32)
junk_read m p k us os true s h l = page_read m (with_erase_taken p (with_page p us m)) p k us s refl refl h l
junk_read m p k us os false s h l = page_read m (with_page p us m) p k us s refl refl h l

junk_word_read : (m : Meaning) (i v : ℕ) (us os : List ℕ) (falls : Bool) → Sound m → i < 128 * m.pages →
    word_answer (cut_written (junk us os falls) (program_word i v) m) i ≡ Ok (get_or us 0 0 % 2 ^ 32)
junk_word_read m i v us os falls s h =
    let has : i < length m.words = omega (arith, s.filled) in
    sym (word_read (with_word i (get_or us 0 0) m) i _ h (sym (get_or-set_same m.words i _ 0 has)))

pub writes_are_read_back : WritesAreReadBack
writes_are_read_back = record {
  program = program_read;
  erase = erase_read;
  options = options_read;
  junk_page = junk_read;
  junk_word = junk_word_read;
}
