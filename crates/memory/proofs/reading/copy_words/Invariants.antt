use Rattle.std.proofs.Common.{◌≡◌, ◌+◌, ◌*◌, ◌<◌, ◌≤◌, ◌++◌, length, drop}
use Rattle.areas.specs.Words.{bytes_of_words}
use Rattle.memory.specs.Portions.{area_words, words_at}
use Rattle.memory.proofs.reading.copy_words.Given as goal

abbrev pub invariant-loop-done : goal.invariant-loop-done
invariant-loop-done g l =
    let m = g.F.Flash.meaning l.flash in
    let ws = words_at m l.area l.first l.done in
    record {
      copied : l.out ≡ bytes_of_words ws ++ drop (4 * l.done) l.initial.out;
      many : length ws ≡ l.done;
      there : 0 < l.done → l.first + l.done ≤ length (area_words m l.area);
    }
