use Rattle.std.proofs.Common.{get_or, vec_items, refl, ap, ◌∙◌}
use Rattle.std.proofs.lemmas.List.{take_all, take_more}
use Rattle.runs.specs.declared.events.Event.TheVariants.{Byte}
use Rattle.part.specs.Events.{answers, run}
use Rattle.loader.specs.Runs.{part_running}
use Rattle.runs.specs.Lists.{events_of, rows_of}
use Rattle.runs.proofs.Longer.{played_more}
use Rattle.runs.proofs.playing.play.Goals as goal

pub loop-event-init : goal.loop-event-init
loop-event-init g c = (ap rows_of c.new-rows.ensures.items, refl)

pub loop-event-preserved : goal.loop-event-preserved
loop-event-preserved g c =
    let part = part_running g.F.Flash.meaning in
    let es = c.args.events.now in
    let i = c.loop-event.event-index in
    let done = c.in_ok-do_event.ensures in
    played_more (part c.args.part.now) (part c.loop-event.part) (part c.do_event.new.part) es i (get_or es i (Byte 0 0))
    (vec_items c.loop-event.rows) (vec_items c.push.new.self) c.in_ok-do_event.field-0 c.loop-event-test.true
    (take_more es i (Byte 0 0) c.loop-event-test.true) c.loop-event.invariant.0 c.loop-event.invariant.1
    done.tells_the_answer_as_defined done.leaves_the_part_as_defined c.in_ok-push.ensures.items

pub returns : goal.returns
returns g c =
    let p = part_running g.F.Flash.meaning c.args.part.now in
    let t = take_all c.loop-event.event-index c.args.events.now c.loop-event-test.false in
    record {
      writes_down_the_answers_as_defined = c.loop-event.invariant.0 ∙ ap (λ es. answers p (events_of es)) t;
      leaves_the_part_as_the_list_does = c.loop-event.invariant.1 ∙ ap (λ es. run p (events_of es)) t;
    }
