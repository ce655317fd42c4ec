use Rattle.std.proofs.Common.{◌≡◌, ℕ, length, drop, ap, ◌∙◌, rules}
use Rattle.std.proofs.lemmas.List.{take_at}
use Rattle.part.specs.Events.{byte_leaves, byte_says}
use Rattle.loader.specs.Runs.{part_running}
use Rattle.runs.specs.Lists.{byte_answer}
use Rattle.runs.proofs.Saying.{byte_told}
use Rattle.runs.proofs.playing.receive.Goals as goal

pub returns : goal.returns
returns g c =
    let p = part_running g.F.Flash.meaning c.args.part.now in
    let buffer = c.receive-received.new.buffer in
    let vector = c.in_ok-buffer.buffer in
    let n : length c.as_mut_slice.result.now ≡ c.args.room = c.as_mut_slice.ensures.len ∙ c.in_ok-buffer.ensures.len in
    let l : length buffer ≡ vector.len = search rules in
    let e = take_at buffer (drop (length buffer) vector.items) vector.len l in
    let told = byte_told p c.args.byte (length c.as_mut_slice.result.now) c.receive-received.result buffer c.as_mut_slice.result.now
    c.receive-received.ensures.answers_as_defined c.receive-received.ensures.puts_the_answer_and_no_more in (
      c.said_of_byte.ensures ∙ ap (byte_answer c.receive-received.result) e ∙ told ∙ ap (λ (x : ℕ). byte_says p c.args.byte x) n,
      c.receive-received.ensures.leaves_the_part_as_defined ∙ ap (λ (x : ℕ). byte_leaves p c.args.byte x) n,
    )
