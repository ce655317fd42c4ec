use Rattle.std.proofs.Common.{ap, ◌∙◌, arith}
use Rattle.commands.specs.Codes.{code_byte}
use Rattle.frame.proofs.Frames.{opened_framed}
use Rattle.frame.proofs.Readback.{code_of_byte}
use Rattle.codec.specs.Reading.{AnswersReadBack, said, coded}
use Rattle.codec.proofs.reader.read_answer.Goals as goal

read_back : AnswersReadBack
read_back c d bytes few =
    ap said (opened_framed 0xB3 (code_byte c) d bytes (omega arith) 512 few)
    ∙ ap (coded (record { tag = code_byte c; at = 4; bytes = d })) (code_of_byte c)

pub returns : goal.returns
returns c = record { is_code_and_data_or_the_first_refusal = c.take_apart.ensures; answers_read_back = read_back }
