-- The words of bytes that were cut into fours.
use Rattle.std.proofs.Common.{◌≡◌, ℕ, ◌+◌, ◌*◌, ◌<◌, List, [], get_or, ap, ◌∙◌, arith}
use Rattle.std.specs.Int.{w32, from_le_bytes}
use Rattle.std.specs.Simd.{first_chunks}
use Rattle.areas.specs.Words.{word_at}
use Rattle.checksum.proofs.Chunks.{chunk_at}

-- the number in the four bytes k is the word at place 4 k
pub chunk_word : (n : ℕ) (xs : List ℕ) (k : ℕ) → k < n → from_le_bytes w32 (get_or (first_chunks 4 n xs) k []) ≡ word_at xs (4 * k)
chunk_word n xs k h =
    let start : 4 * k + 0 ≡ 4 * k = omega arith in
    let b0 = chunk_at 4 n k xs 0 h (omega arith) ∙ ap (λ (p : ℕ). get_or xs p 0) start in
    let b1 = chunk_at 4 n k xs 1 h (omega arith) in
    let b2 = chunk_at 4 n k xs 2 h (omega arith) in
    let b3 = chunk_at 4 n k xs 3 h (omega arith) in
    λ j. b0 j + b1 j * 256 + b2 j * 65536 + b3 j * 16777216
