use Rattle.codec.specs.Writing.{written_count, written_buffer}
use Rattle.codec.proofs.Exact.{written_frames_pass, passing_frames_are_written, frames_fit_the_buffer}
use Rattle.codec.proofs.writer.write_request.Goals as goal

pub returns : goal.returns
unfolding written_count written_buffer
returns c = record {
  tells_how_many_bytes_or_the_first_refusal = c.write_checked.ensures.count;
  writes_the_frame_and_no_more = c.write_checked.ensures.frame;
  written_frames_pass = written_frames_pass;
  passing_frames_are_written = passing_frames_are_written;
  frames_fit_the_buffer = frames_fit_the_buffer;
}
