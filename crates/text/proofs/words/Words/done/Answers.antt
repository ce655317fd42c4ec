use Rattle.std.proofs.Common.{ap, ◌∙◌}
use Rattle.text.proofs.Cuts.{unread_none}
use Rattle.text.specs.Lines.{wordless}
use Rattle.text.proofs.words.Words.done.Goals as goal

pub returns : goal.returns
returns c = record { tells_whether_no_word_is_left = unread_none c.self.inside.rest c.is_none.result c.is_none.ensures ∙ ap wordless c.self.view_is }
