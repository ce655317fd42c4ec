-- A list cut into chunks of one length.
-- Assumes nothing.
use Rattle.std.proofs.Common.{◌≡◌, ℕ, zero, suc, ◌+◌, ◌*◌, ◌<◌, List, [], get_or, drop, ap, ◌∙◌, arith}
use Rattle.std.proofs.Math.Nat.{mul-suc}
use Rattle.std.specs.Simd.{first_chunks}
use Rattle.std.proofs.lemmas.List.{get_or-take, get_or-drop}

-- the number k of the chunk i, of n chunks of m numbers
pub chunk_at : (m n i : ℕ) (xs : List ℕ) (k : ℕ) → i < n → k < m → get_or (get_or (first_chunks m n xs) i []) k 0 ≡ get_or xs (m * i + k) 0
chunk_at m zero i xs k h j = absurd (omega arith)
chunk_at m (suc n) zero xs k h j =
    let place : k ≡ m * 0 + k = omega arith in
    get_or-take m xs k 0 j ∙ ap (λ (p : ℕ). get_or xs p 0) place
chunk_at m (suc n) (suc i) xs k h j =
    let place : m + (m * i + k) ≡ m * suc i + k = omega (arith, mul-suc m i) in
    chunk_at m n i (drop m xs) k (omega arith) j ∙ get_or-drop m xs (m * i + k) 0 ∙ ap (λ (p : ℕ). get_or xs p 0) place
