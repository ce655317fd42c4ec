use Rattle.std.proofs.Common.{rules}
use Rattle.text.proofs.Spelled.{byte_reads}
use Rattle.text.proofs.hexadecimal.U8Hexadecimal.read.Goals as goal

pub returns-clause-is_the_number_whose_text_the_word_is : goal.returns-clause-is_the_number_whose_text_the_word_is
returns-clause-is_the_number_whose_text_the_word_is c = byte_reads c.args.word.now _ (search rules)
