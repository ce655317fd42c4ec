-- A line of words: `(`, which is 40, the words with one blank, 32, between any two, and `)`, which is 41.
use Rattle.std.specs.Prelude.{◌≡◌, ℕ, ◌-◌, Bool, true, false, cond, ◌&&◌, List, [], ◌∷◌, ◌++◌, length, take, drop, Some, None, Option, ◌==◌, nat_le, slice_index}
use Rattle.std.specs.List.{flat_map, AllByRecursion}
use Rattle.std.specs.Option.{option_map}

-- a word with no blank in it
abbrev pub Plain : List ℕ → Type 0
Plain w = AllByRecursion (λ c. c ≡ 32 → ⊥) w

-- some more words, each behind a blank
abbrev pub more_words : List (List ℕ) → List ℕ
more_words ws = flat_map (λ w. 32 ∷ w) ws

-- the text of a line that has a first word and some more
abbrev pub line_text : List ℕ → List (List ℕ) → List ℕ
line_text w ws = 40 ∷ (w ++ (more_words ws ++ (41 ∷ [])))

-- a letter put before the first word
abbrev pub lengthened : ℕ → List (List ℕ) → List (List ℕ)
lengthened c [] = []
lengthened c (w ∷ ws) = (c ∷ w) ∷ ws

-- a text cut at each of its blanks
abbrev pub pieces : List ℕ → List (List ℕ)
pieces [] = [] ∷ []
pieces (c ∷ cs) = cond (c == 32) ([] ∷ pieces cs) (lengthened c (pieces cs))

-- what a line has between `(` and `)`
abbrev pub inside : List ℕ → Option (List ℕ)
inside l =
    cond (nat_le 2 (length l) && (slice_index l 0 == 40 && slice_index l (length l - 1) == 41))
    (Some (take (length l - 2) (drop 1 l)))
    None

-- the words of a line
abbrev pub words_in : List ℕ → Option (List (List ℕ))
words_in l = option_map pieces (inside l)

-- the first word as something, if there is one; and the words behind it
abbrev pub first_by : {X : Type 0} → (List ℕ → Option X) → List (List ℕ) → Option X
first_by p [] = None
first_by p (w ∷ ws) = p w

abbrev pub behind : List (List ℕ) → List (List ℕ)
behind [] = []
behind (w ∷ ws) = ws

-- all the words as something, one by one
abbrev pub put_first : {X : Type 0} → Option X → Option (List X) → Option (List X)
put_first None xs = None
put_first (Some x) None = None
put_first (Some x) (Some xs) = Some (x ∷ xs)

abbrev pub all_by : {X : Type 0} → (List ℕ → Option X) → List (List ℕ) → Option (List X)
all_by p [] = Some []
all_by p (w ∷ ws) = put_first (p w) (all_by p ws)

-- there are no words
abbrev pub wordless : List (List ℕ) → Bool
wordless [] = true
wordless (w ∷ ws) = false
