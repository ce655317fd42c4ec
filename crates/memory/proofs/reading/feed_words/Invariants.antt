use Rattle.std.proofs.Common.{◌≡◌, ◌+◌, ◌<◌, ◌≤◌, length}
use Rattle.areas.specs.declared.map.Area.TheVariants.{User}
use Rattle.areas.specs.Words.{bytes_of_words}
use Rattle.checksum.specs.Crc.{feeds}
use Rattle.memory.specs.Portions.{area_words, words_at}
use Rattle.memory.proofs.reading.feed_words.Given as goal

abbrev pub invariant-loop-done : goal.invariant-loop-done
invariant-loop-done g l =
    let m = g.F.Flash.meaning l.flash in
    record {
      fed : l.sum.register ≡ feeds l.register (bytes_of_words (words_at m User l.first l.done));
      there : 0 < l.done → l.first + l.done ≤ length (area_words m User);
    }
