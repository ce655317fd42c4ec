use Rattle.std.proofs.Common.{replicate, ap, ◌∙◌}
use Rattle.std.proofs.lemmas.Result.{IfOk-weaker}
use Rattle.codec.specs.Writing.{asking, written, written_count, written_buffer}
use Rattle.script.specs.Answering.{frame_line}
use Rattle.script.proofs.Frames.{frame_counted, frame_refused}
use Rattle.script.proofs.replies.request_line.Goals as goal

pub slice_bounds-bytes_line-end : goal.slice_bounds-bytes_line-end
unfolding written_count written_buffer
slice_bounds-bytes_line-end c =
    (frame_counted (written (asking c.args.request)) c.in-Ok.count (replicate 522 0) c.write_request.new.buffer
    c.in-Ok.ensures.tells_how_many_bytes_or_the_first_refusal c.write_request.ensures.writes_the_frame_and_no_more).0

pub returns-in-Ok : goal.returns-in-Ok
unfolding written_count written_buffer
returns-in-Ok c =
    let e = (frame_counted (written (asking c.args.request)) c.in-Ok.count (replicate 522 0) c.write_request.new.buffer
    c.in-Ok.ensures.tells_how_many_bytes_or_the_first_refusal c.write_request.ensures.writes_the_frame_and_no_more).1 in
    IfOk-weaker c.bytes_line.result _ _ (λ v h. h ∙ ap frame_line e) c.bytes_line.ensures

pub returns-in-Err : goal.returns-in-Err
unfolding written_count written_buffer
returns-in-Err c =
    let e = frame_refused (written (asking c.args.request)) c.in-Err.refusal c.in-Err.ensures.tells_how_many_bytes_or_the_first_refusal in
    IfOk-weaker c.refusal_line.result _ _ (λ v h. h ∙ ap frame_line e) c.refusal_line.ensures
