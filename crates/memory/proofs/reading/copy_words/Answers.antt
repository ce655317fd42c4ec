use Rattle.std.proofs.Common.{◌+◌, ◌∙◌, arith}
use Rattle.memory.specs.Portions.{area_words}
use Rattle.memory.proofs.Copies.{copied_more}
use Rattle.memory.proofs.Presence.{present}
use Rattle.memory.proofs.reading.copy_words.Goals as goal

pub loop-done-preserved : goal.loop-done-preserved
loop-done-preserved g c =
    let m = g.F.Flash.meaning c.args.flash.now in
    let xs = area_words m c.args.area in
    let v = c.loop-done.invariant in
    let at = c.args.first + c.loop-done.done in
    let p = present m c.args.area at c.in-Some.word c.in-Some.ensures in
    let q = copied_more xs c.loop-done.out c.args.out.now c.copy_from_slice.new.self c.args.first c.loop-done.done c.in-Some.word
    p.0 p.1 (c.copy_from_slice.ensures.after ∙ c.bytes_of.ensures.has_the_low_byte_first) v.copied v.many in
    record { copied = q.0; many = q.1; there = λ _. omega (arith, p.0) }
