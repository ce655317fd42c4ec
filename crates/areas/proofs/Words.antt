-- Words as bytes, and stretches of words.
use Rattle.std.proofs.Common.{◌≡◌, ℕ, ◌+◌, ◌*◌, ◌<◌, List, [], ◌∷◌, ◌++◌, length, get_or, take, drop, sym, refl, ap, ◌∙◌, arith}
use Rattle.std.proofs.lemmas.List.{append_assoc, append-nil, length-append, length-drop, get_or-drop, take_more}
use Rattle.areas.specs.Words.{bytes_of_word, bytes_of_words}

pub bytes_append : (a b : List ℕ) → bytes_of_words (a ++ b) ≡ bytes_of_words a ++ bytes_of_words b
bytes_append [] b = refl
bytes_append (w ∷ a) b = ap (λ x. bytes_of_word w ++ x) (bytes_append a b) ∙ sym (append_assoc (bytes_of_word w) (bytes_of_words a) (bytes_of_words b))

pub bytes_push : (ws : List ℕ) (w : ℕ) → bytes_of_words (ws ++ w ∷ []) ≡ bytes_of_words ws ++ bytes_of_word w
bytes_push ws w = bytes_append ws (w ∷ []) ∙ ap (λ x. bytes_of_words ws ++ x) (append-nil (bytes_of_word w))

pub length_bytes : (ws : List ℕ) → length (bytes_of_words ws) ≡ 4 * length ws
length_bytes [] = refl
length_bytes (w ∷ ws) = omega (arith, length-append (bytes_of_word w) (bytes_of_words ws), length_bytes ws)

-- one word more of a stretch, and a stretch that has come to the end of the words
pub stretch_more : (xs : List ℕ) (first i : ℕ) → first + i < length xs → take (i + 1) (drop first xs) ≡ take i (drop first xs) ++ get_or xs (first + i) 0 ∷ []
stretch_more xs first i h =
    take_more (drop first xs) i 0 (omega (arith, length-drop first xs))
    ∙ ap (λ (x : ℕ). take i (drop first xs) ++ x ∷ []) (get_or-drop first xs i 0)
