use Rattle.std.proofs.Common.{◌+◌, arith}
use Rattle.areas.specs.declared.map.Area.TheVariants.{User}
use Rattle.checksum.specs.Crc.{feeds}
use Rattle.memory.proofs.Copies.{fed_more}
use Rattle.memory.proofs.Presence.{present}
use Rattle.memory.proofs.reading.feed_words.Goals as goal

pub loop-done-init : goal.loop-done-init
unfolding feeds
loop-done-init g c = record { fed = c.resume-sum.ensures; there = λ h. absurd (omega (arith, h)) }

pub loop-done-preserved : goal.loop-done-preserved
loop-done-preserved g c =
    let m = g.F.Flash.meaning c.args.flash.now in
    let at = c.args.first + c.loop-done.done in
    let p = present m User at c.in-Some.word c.in-Some.ensures in
    record {
      fed = fed_more m.words c.args.first c.loop-done.done c.in-Some.word c.args.register c.loop-done.sum.register
          c.feed.new.self.register c.bytes_of.result p.0 p.1 c.bytes_of.ensures.has_the_low_byte_first
          c.loop-done.invariant.fed c.feed.ensures.fed;
      there = λ _. omega (arith, p.0);
    }
