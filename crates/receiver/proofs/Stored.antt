-- The data of a Write in a store that has its frame at the head.
use Rattle.std.proofs.Common.{◌≡◌, ℕ, ◌+◌, ◌-◌, ◌*◌, ◌/◌, min, max, List, length, take, drop, sym, ap, ◌∙◌, arith}
use Rattle.std.proofs.lemmas.List.{length-take, length-drop, drop-take, take-take}
use Rattle.commands.specs.Requests.{stored_bytes, WriteLength}

pub stored_same : (f s bytes : List ℕ) → WriteLength (length bytes) → bytes ≡ take (length bytes) (drop 8 f) → take (length f) s ≡ f
    → stored_bytes s (length bytes / 4) ≡ bytes
stored_same f s bytes w e t =
    let n = length bytes in
    let k = length f - 8 in
    let l : n ≡ min n (length f - 8) = ap length e ∙ length-take n (drop 8 f) ∙ ap (min n) (length-drop 8 f) in
    let h : length f ≡ 8 + k = omega arith in
    let c : 4 * min (max (n / 4) 1) 128 ≡ n = omega arith in
    let d : drop 8 f ≡ take k (drop 8 s) = sym (ap (drop 8) t) ∙ ap (λ (x : ℕ). drop 8 (take x s)) h ∙ drop-take 8 k s in
    ap (λ (x : ℕ). take x (drop 8 s)) c
    ∙ sym (take-take n k (drop 8 s) (omega arith))
    ∙ sym (ap (take n) d)
    ∙ sym e
