-- Reading a line word by word: its first word tells how the words behind it are read. Of any verbs, and of anything that a line can ask for.
use Rattle.std.specs.Prelude.{◌≡◌, ℕ, cond, List, [], ◌∷◌, Some, None, Option}
use Rattle.std.specs.List.{AllByRecursion}
use Rattle.std.specs.Option.{option_map}
use Rattle.std.specs.Str.{bytes_eq}
use Rattle.text.specs.Digits.{byte_in}
use Rattle.text.specs.Lines.{Plain, words_in, first_by, behind, all_by, wordless}

-- the first of some verbs whose text is the word
abbrev pub among : {V : Type 0} → (V → List ℕ) → List V → List ℕ → Option V
among text [] w = None
among text (v ∷ vs) w = cond (bytes_eq w (text v)) (Some v) (among text vs w)

-- with what was read of the first word, and the words behind it
abbrev pub given : {X A : Type 0} → Option X → (X → List (List ℕ) → Option A) → List (List ℕ) → Option A
given None next ws = None
given (Some x) next ws = next x ws

-- the first word is read so, and then the words behind it
abbrev pub taken : {X A : Type 0} → (List ℕ → Option X) → (X → List (List ℕ) → Option A) → List (List ℕ) → Option A
taken p next ws = given (first_by p ws) next (behind ws)

-- there are no more words
abbrev pub ended : {A : Type 0} → A → List (List ℕ) → Option A
ended a ws = cond (wordless ws) (Some a) None

-- all words that are left are bytes
abbrev pub bytes_taken : {A : Type 0} → (List ℕ → A) → List (List ℕ) → Option A
bytes_taken a ws = option_map a (all_by byte_in ws)

-- the largest number of 32 bits
abbrev pub most : ℕ
most = 4294967295

-- what the words of a line ask for, if it has words
abbrev pub asked_or_none : {A : Type 0} → (List (List ℕ) → Option A) → Option (List (List ℕ)) → Option A
asked_or_none asked None = None
asked_or_none asked (Some ws) = asked ws

-- what a line asks for, by its first word and the words behind it
abbrev pub asked_by_verb : {V A : Type 0} → (List ℕ → Option V) → (V → List (List ℕ) → Option A) → List ℕ → Option A
asked_by_verb verb_in asked_by l = asked_or_none (taken verb_in asked_by) (words_in l)

-- verbs with their texts, and what is asked for with its verb, its words and its limits: read back, and all that is read
pub record Spelling {V A : Type 0} (verb_text : V → List ℕ) (verb_in : List ℕ → Option V) (asked_by : V → List (List ℕ) → Option A)
    (verb_for : A → V) (words_for : A → List (List ℕ)) (fits : A → Type 0) : Type 0 where
  pub plain_verb : (v : V) → Plain (verb_text v)
  pub plain_words : (a : A) → fits a → AllByRecursion Plain (words_for a)
  pub verb_back : (v : V) → verb_in (verb_text v) ≡ Some v
  pub verb_only : (w : List ℕ) (v : V) → verb_in w ≡ Some v → verb_text v ≡ w
  pub asked_back : (a : A) → fits a → asked_by (verb_for a) (words_for a) ≡ Some a
  pub asked_only : (v : V) (ws : List (List ℕ)) (a : A) → asked_by v ws ≡ Some a → (verb_for a ≡ v) × (words_for a ≡ ws) × fits a
