use Rattle.std.proofs.Common.{◌≡◌, ℕ, ◌/◌, List, [], length, get_or, ap, ◌∙◌, arith}
use Rattle.std.specs.Int.{w32, from_le_bytes}
use Rattle.frame.proofs.Words.{chunk_word}
use Rattle.frame.proofs.write_data.WriteData.words.Goals as goal

pub returns-clause-each : goal.returns-clause-each
returns-clause-each c k h =
    let xs : List ℕ = c.args.self.now.bytes.now in
    let count : length c.as_chunks.result.0.now ≡ length xs / 4 = c.as_chunks.ensures.front_len in
    ap (λ (words : List (List ℕ)). from_le_bytes w32 (get_or words k [])) c.as_chunks.ensures.front
    ∙ chunk_word (length xs / 4) xs k (omega (arith, h))
