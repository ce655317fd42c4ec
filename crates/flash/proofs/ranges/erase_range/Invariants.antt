use Rattle.std.proofs.Common.{◌≡◌, ◌+◌, ◌-◌, ◌<◌, ◌≤◌}
use Rattle.flash.specs.Ranges.{erase_rest_answer, erase_range_leaves}
use Rattle.flash.proofs.ranges.erase_range.Given as goal

-- what is still to do gives the answer and the flash of the whole range
abbrev pub invariant-loop-done : goal.invariant-loop-done
invariant-loop-done g l =
    let m = g.F.Flash.meaning l.flash in
    let before = g.F.Flash.meaning l.initial.flash in
    (0 < l.done → l.first + l.done ≤ m.pages)
    × (erase_rest_answer l.done m (l.first + l.done) (l.count - l.done) ≡ erase_rest_answer 0 before l.first l.count)
    × (erase_range_leaves m (l.first + l.done) (l.count - l.done) ≡ erase_range_leaves before l.first l.count)
    × (g.F.Flash.lent l.flash ≡ g.F.Flash.lent l.initial.flash)
