-- Answers put into a buffer.
use Rattle.std.specs.Prelude.{◌≡◌, ℕ, List}
use Rattle.frame.specs.Layout.{headed}
use Rattle.loader.specs.declared.answer_buffer.AnswerBuffer.{AnswerBuffer}

-- the bytes stand at the head of the buffer, what is behind them is as it was, and it is the same loan
pub record Puts (bytes : List ℕ) (old new : AnswerBuffer) : Type 0 where
  pub head : new.bytes.now ≡ headed bytes old.bytes.now
  pub loan : new.bytes.ghost_name ≡ old.bytes.ghost_name
