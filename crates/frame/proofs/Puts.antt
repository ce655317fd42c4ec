-- Bytes put one after the other at the head of a buffer.
use Rattle.std.proofs.Common.{◌≡◌, ℕ, suc, ◌+◌, ◌/◌, ◌%◌, ◌≤◌, eqb, List, [], ◌∷◌, ◌++◌, length, arith}
use Rattle.std.proofs.lemmas.List.{length-append}
use Rattle.std.proofs.lemmas.Bool.Decides.{nat_tests}
use Rattle.std.proofs.lemmas.Bool.{cond_both}
use Rattle.checksum.specs.Crc.{crc}
use Rattle.commands.specs.Fields.{bytes_of_two}
use Rattle.frame.specs.Layout.{total, check_bytes, framed}

-- the four parts of a frame are the frame
pub whole_frame : (head tag n : ℕ) (first second check : List ℕ) → length first + length second ≡ n → n ≤ 65535 → check ≡ check_bytes (first ++ second)
    → (((head ∷ tag ∷ n / 256 ∷ n % 256 ∷ []) ++ first) ++ second) ++ check ≡ framed head tag (first ++ second)
whole_frame head tag n first second check e m k =
    let l : length (first ++ second) ≡ n = simp length-append e in
    let high : n / 256 ≡ length (first ++ second) / 256 % 256 = omega arith in
    let low : n % 256 ≡ length (first ++ second) % 256 = omega arith in
    λ j. head ∷ tag ∷ high j ∷ low j ∷ ((first ++ second) ++ k j)

-- a frame with no data has four bytes, any other six more than its data
pub length_framed : (head tag : ℕ) (bytes : List ℕ) → length (framed head tag bytes) ≡ total (length bytes)
length_framed head tag bytes =
    cond_both (eqb (length bytes) 0) [] (bytes_of_two (crc bytes)) (λ (check : List ℕ). suc (suc (suc (suc (length (bytes ++ check))))) ≡ total (length bytes))
    (λ e. simp length-append (grind (arith, nat_tests)))
    (λ e. simp length-append (grind (arith, nat_tests)))
