use Rattle.std.proofs.Common.{◌≡◌, find, ap, ◌∙◌, rules, tests}
use Rattle.std.proofs.lemmas.Iterator.{YieldsList-from_slice}
use Rattle.std.proofs.lemmas.Iterator.Consumers.{YieldsList-from_copied}
use Rattle.std.proofs.lemmas.Iterator.Search.{find_from_yields_List}
use Rattle.std.specs.Option.{option_map}
use Rattle.std.specs.Str.{bytes_eq}
use Rattle.text.specs.Grammar.{among}
use Rattle.text.proofs.Asking.{among_found}
use Rattle.text.proofs.verbs.verb_of.Goals as goal

pub returns : goal.returns
returns g c =
    let w = c.args.word.now in
    let found : option_map (λ v. v) c.find.result ≡ find (λ v. bytes_eq w (g.V.Verb.spelled v)) c.all.result.now =
    find_from_yields_List (λ v. bytes_eq w (g.V.Verb.spelled v)) _ _ c.find.result c.find.ensures.ran
    (YieldsList-from_copied (YieldsList-from_slice c.all.result.now (cc))) (λ x b q k. search (rules, tests)) in
    record {
      is_the_verb_whose_text_the_word_is =
          among_found g.V.Verb.spelled c.all.result.now w c.find.result found ∙ ap (λ vs. among g.V.Verb.spelled vs w) c.all.ensures.are_all_the_verbs;
    }
