-- Words that are copied as bytes, and words that are fed into a checksum, one after the other.
use Rattle.std.proofs.Common.{◌≡◌, ℕ, ◌+◌, ◌-◌, ◌*◌, ◌<◌, List, [], ◌∷◌, ◌++◌, length, get_or, take, drop, sym, ap, ◌∙◌, arith}
use borrow.Rule.Slice.PartMut.{put_mid}
use Rattle.std.proofs.lemmas.List.{append_assoc, take_at, drop_at, drop-drop, length_push}
use Rattle.areas.specs.Words.{bytes_of_word, bytes_of_words}
use Rattle.areas.proofs.Words.{bytes_push, length_bytes, stretch_more}
use Rattle.checksum.specs.Crc.{feeds}
use Rattle.checksum.proofs.Laws.{joins}

-- four bytes more behind those that were put
put_four : (out old bs b : List ℕ) (i : ℕ) → out ≡ bs ++ drop (4 * i) old → length bs ≡ 4 * i
    → put_mid (4 * i) ((4 * i + 4) - 4 * i) out b ≡ (bs ++ b) ++ drop (4 * (i + 1)) old
put_four out old bs b i e l =
    let n = 4 * i in
    let k : (4 * i + 4) - 4 * i ≡ 4 = omega arith in
    let t : take n out ≡ bs = ap (take n) e ∙ take_at bs (drop n old) n l in
    let d : drop n out ≡ drop n old = ap (drop n) e ∙ drop_at bs (drop n old) n l in
    let f : drop 4 (drop n old) ≡ drop (4 * (i + 1)) old = drop-drop 4 n old ∙ ap (λ (x : ℕ). drop x old) (omega arith) in
    ap (λ (j : ℕ). take n out ++ (b ++ drop j (drop n out))) k
    ∙ ap (λ x. x ++ (b ++ drop 4 (drop n out))) t
    ∙ ap (λ x. bs ++ (b ++ drop 4 x)) d
    ∙ ap (λ x. bs ++ (b ++ x)) f
    ∙ sym (append_assoc bs b (drop (4 * (i + 1)) old))

pub copied_more : (xs out old b : List ℕ) (first i w : ℕ) → first + i < length xs → w ≡ get_or xs (first + i) 0
    → b ≡ bytes_of_word w
    → out ≡ bytes_of_words (take i (drop first xs)) ++ drop (4 * i) old → length (take i (drop first xs)) ≡ i
    → (put_mid (4 * i) ((4 * i + 4) - 4 * i) out b ≡ bytes_of_words (take (i + 1) (drop first xs)) ++ drop (4 * (i + 1)) old)
    × (length (take (i + 1) (drop first xs)) ≡ i + 1)
copied_more xs out old b first i w h e f o l =
    let ws = take i (drop first xs) in
    let m : take (i + 1) (drop first xs) ≡ ws ++ w ∷ [] = stretch_more xs first i h ∙ ap (λ (x : ℕ). ws ++ x ∷ []) (sym e) in
    let p = put_four out old (bytes_of_words ws) b i o (omega (arith, length_bytes ws)) in
    let q : bytes_of_words ws ++ b ≡ bytes_of_words (take (i + 1) (drop first xs)) =
    ap (λ x. bytes_of_words ws ++ x) f ∙ sym (bytes_push ws w) ∙ ap bytes_of_words (sym m) in
    (p ∙ ap (λ x. x ++ drop (4 * (i + 1)) old) q, ap length m ∙ length_push ws w ∙ ap (λ (x : ℕ). x + 1) l)

pub fed_more : (xs : List ℕ) (first i w start register after : ℕ) (b : List ℕ) → first + i < length xs → w ≡ get_or xs (first + i) 0
    → b ≡ bytes_of_word w → register ≡ feeds start (bytes_of_words (take i (drop first xs))) → after ≡ feeds register b
    → after ≡ feeds start (bytes_of_words (take (i + 1) (drop first xs)))
fed_more xs first i w start register after b h e f r a =
    let ws = take i (drop first xs) in
    let m : take (i + 1) (drop first xs) ≡ ws ++ w ∷ [] = stretch_more xs first i h ∙ ap (λ (x : ℕ). ws ++ x ∷ []) (sym e) in
    a ∙ ap (feeds register) f ∙ joins start (bytes_of_words ws) register r (bytes_of_word w)
    ∙ ap (feeds start) (sym (bytes_push ws w) ∙ ap bytes_of_words (sym m))
