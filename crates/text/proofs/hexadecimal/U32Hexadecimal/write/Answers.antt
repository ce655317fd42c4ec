use Rattle.std.proofs.Common.{ap, arith, get_or}
use Rattle.std.proofs.lemmas.Result.{IfOk-weaker}
use Rattle.text.proofs.Added.{bytes_put}
use Rattle.text.proofs.hexadecimal.U32Hexadecimal.write.Goals as goal

pub returns : goal.returns
returns c =
    let one = c.in_ok-write.ensures.puts_the_digits_behind_the_text in
    let two = c.in_ok-write-2.ensures.puts_the_digits_behind_the_text in
    let three = c.in_ok-write-3.ensures.puts_the_digits_behind_the_text in
    record {
      puts_the_digits_behind_the_text =
          IfOk-weaker c.write-4.result _ _
          (λ u e.
          bytes_put c.args.self _ _ _ _ _ _ _ _ _ one two three e (omega (arith, ap (λ bytes. get_or bytes 0 0) c.to_be_bytes.ensures)) (omega (arith, ap (λ bytes. get_or bytes 1 0) c.to_be_bytes.ensures)) (omega (arith, ap (λ bytes. get_or bytes 2 0) c.to_be_bytes.ensures)) (omega (arith, ap (λ bytes. get_or bytes 3 0) c.to_be_bytes.ensures)))
          c.write-4.ensures.puts_the_digits_behind_the_text;
    }
