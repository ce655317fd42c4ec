use Rattle.std.proofs.Common.{◌≡◌, IfOk, rules}
use Rattle.std.proofs.lemmas.Result.{IfOk-weaker}
use Rattle.std.specs.Option.{option_map}
use Rattle.text.specs.Grammar.{among, asked_by_verb}
use Rattle.text.proofs.Asking.{line_reads}
use Rattle.text.proofs.forms.parse.Goals as goal

pub returns-in_default-verb-clause-is_the_form_whose_text_the_line_is :
    goal.returns-in_default-verb-clause-is_the_form_whose_text_the_line_is
returns-in_default-verb-clause-is_the_form_whose_text_the_line_is g c =
    line_reads _ _ _ _ _ _ g.met.F.Form.reads_back c.args.line.now _ (search rules)

pub returns-clause-is_the_form_whose_text_the_line_is : goal.returns-clause-is_the_form_whose_text_the_line_is
returns-clause-is_the_form_whose_text_the_line_is g c =
    let read : IfOk c.behind.result (λ o. option_map g.F.Form.meant o ≡ asked_by_verb (among g.F.Verb.Verb.spelled g.F.Verb.Verb.every) g.F.Form.asked_by c.args.line.now) = search rules in
    IfOk-weaker c.behind.result _ _ (λ o e. line_reads _ _ _ _ _ _ g.met.F.Form.reads_back c.args.line.now _ e) read
