-- What a buffer holds behind the writer of requests.
use Rattle.std.proofs.Common.{◌≡◌, ℕ, ◌+◌, ◌-◌, ◌≤◌, List, length, take, drop, Ok, Err, Result, ap, ◌∙◌, arith}
use Rattle.std.proofs.lemmas.List.{length-append, take_at}
use Rattle.commands.specs.declared.codes.Refusal.{Refusal}
use Rattle.codec.specs.Writing.{count_written, left_by}

-- the bytes that were counted are the frame
pub frame_counted : (r : Result (List ℕ) Refusal) (count : ℕ) (old new : List ℕ) → Ok count ≡ count_written r → new ≡ left_by r old
    → (count ≤ length new) × (Ok (take (count - 0) new) ≡ r)
frame_counted (Err e) count old new h k = let z : ◌≡◌ {A = ℕ} 0 1 = cc in absurd (omega arith)
frame_counted (Ok f) count old new h k =
    let same : count ≡ length f = cc in
    let long : length new ≡ length f + length (drop (length f) old) = ap length k ∙ length-append f (drop (length f) old) in (
      omega arith,
      ap Ok (ap (take (count - 0)) k ∙ take_at f (drop (length f) old) (count - 0) (omega arith)),
    )

-- a refusal is that of the frame
pub frame_refused : (r : Result (List ℕ) Refusal) (e : Refusal) → Err e ≡ count_written r → Err e ≡ r
frame_refused (Err d) e h = let same : e ≡ d = cc in ap Err same
frame_refused (Ok f) e h = let z : ◌≡◌ {A = ℕ} 0 1 = cc in absurd (omega arith)
