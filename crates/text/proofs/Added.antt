-- Words added to a line.
use Rattle.std.proofs.Common.{◌≡◌, ℕ, List, [], ◌∷◌, ◌++◌, ◌/◌, ◌%◌, ap, ◌∙◌, ap₂}
use Rattle.std.proofs.lemmas.List.{append_assoc, append-nil, flat_map_more}
use Rattle.text.specs.Digits.{hex_byte, hex_long}
use Rattle.text.specs.Lines.{more_words}

-- a word behind some words
pub words_added : (old mid new : List ℕ) (ws : List (List ℕ)) (w : List ℕ) → mid ≡ old ++ more_words ws → new ≡ mid ++ more_words (w ∷ [])
    → new ≡ old ++ more_words (ws ++ (w ∷ []))
words_added old mid new ws w e f =
    f ∙ ap (λ x. mid ++ (32 ∷ x)) (append-nil w) ∙ ap (λ x. x ++ (32 ∷ w)) e ∙ flat_map_more (λ v. 32 ∷ v) old ws w

-- a line is its first word, the words added to it, and the closing bracket
pub line_made : (w first more last text : List ℕ) → first ≡ 40 ∷ w → last ≡ first ++ more → text ≡ last ++ (41 ∷ [])
    → text ≡ 40 ∷ (w ++ (more ++ (41 ∷ [])))
line_made w first more last text e f g =
    g ∙ ap (λ x. x ++ (41 ∷ [])) (f ∙ ap (λ x. x ++ more) e) ∙ append_assoc (40 ∷ w) more (41 ∷ [])

-- the four bytes of a number, put behind a text one after the other, are its digits behind the text
pub bytes_put : (n : ℕ) (old one two three new : List ℕ) (a b c d : ℕ)
    → one ≡ old ++ hex_byte a → two ≡ one ++ hex_byte b → three ≡ two ++ hex_byte c → new ≡ three ++ hex_byte d
    → a ≡ n / 65536 / 256 → b ≡ n / 65536 % 256 → c ≡ n % 65536 / 256 → d ≡ n % 65536 % 256
    → new ≡ old ++ hex_long n
bytes_put n old one two three new a b c d e f g h p q r s =
    let two_put : two ≡ old ++ (hex_byte a ++ hex_byte b) = f ∙ ap (λ x. x ++ hex_byte b) e ∙ append_assoc old (hex_byte a) (hex_byte b) in
    let three_put : three ≡ old ++ (hex_byte a ++ hex_byte b ++ hex_byte c) = g ∙ ap (λ x. x ++ hex_byte c) two_put ∙ append_assoc old (hex_byte a ++ hex_byte b) (hex_byte c) in
    h ∙ ap (λ x. x ++ hex_byte d) three_put ∙ append_assoc old (hex_byte a ++ hex_byte b ++ hex_byte c) (hex_byte d)
    ∙ ap₂ (λ x y. old ++ (x ++ y)) (ap₂ (λ x y. hex_byte x ++ hex_byte y) p q) (ap₂ (λ x y. hex_byte x ++ hex_byte y) r s)
