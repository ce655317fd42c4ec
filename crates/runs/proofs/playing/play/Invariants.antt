use Rattle.std.proofs.Common.{◌≡◌, take, vec_items}
use Rattle.part.specs.Events.{answers, run}
use Rattle.loader.specs.Runs.{part_running}
use Rattle.runs.specs.Lists.{events_of, rows_of}
use Rattle.runs.proofs.playing.play.Given as goal

abbrev pub invariant-loop-event : goal.invariant-loop-event
invariant-loop-event g l =
    (rows_of (vec_items l.rows) ≡ answers (part_running g.F.Flash.meaning l.initial.part) (events_of (take l.event-index l.events)))
    × (part_running g.F.Flash.meaning l.part ≡ run (part_running g.F.Flash.meaning l.initial.part) (events_of (take l.event-index l.events)))
