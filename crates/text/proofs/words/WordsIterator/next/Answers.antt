use Rattle.std.proofs.Common.{◌≡◌, [], ◌∷◌, ◌+◌, ◌-◌, length, take, drop, position, eqb, sym, ap, ◌∙◌, subst, arith, rules, tests}
use Rattle.std.proofs.lemmas.Iterator.{YieldsList-from_slice}
use Rattle.std.proofs.lemmas.Iterator.Search.{position_from_yields_List}
use Rattle.std.proofs.lemmas.List.{take_rest}
use Rattle.std.specs.Option.{MatchOption}
use Rattle.text.specs.Cursor.{unread}
use Rattle.text.specs.Lines.{pieces}
use Rattle.text.proofs.Cuts.{first_cut}
use Rattle.text.proofs.words.WordsIterator.next.Goals as goal

pub returns-in_default : goal.returns-in_default
returns-in_default c =
    let text = c.in_ok-text.text in
    let at : c.position.result ≡ position (λ c. eqb c 32) text.now =
    position_from_yields_List (λ c. eqb c 32) _ _ c.position.result c.position.ensures.ran (YieldsList-from_slice text.now cc) (λ x b q k. search (rules, tests)) in
    let cut : c.args.self.now ≡ text.now ∷ [] =
    sym c.self.view_is
    ∙ subst (λ end. MatchOption end (unread c.self.inside.rest ≡ text.now ∷ []) (λ end. unread c.self.inside.rest ≡ take end text.now ∷ pieces (drop (end + 1) text.now))) c.in_default.is
    (first_cut c.self.inside.rest text c.position.result c.in_ok-text.was at) in
    record { steps = cut; goes = record { on = λ f. (tt, f, omega (arith, ap length cut)); keeps = tt; rests = λ f. tt } }

pub returns : goal.returns
returns c =
    let text = c.in_ok-text.text in
    let at : c.position.result ≡ position (λ c. eqb c 32) text.now =
    position_from_yields_List (λ c. eqb c 32) _ _ c.position.result c.position.ensures.ran (YieldsList-from_slice text.now cc) (λ x b q k. search (rules, tests)) in
    let rest = take (length text.now - (c.in-Some.end + 1)) (drop (c.in-Some.end + 1) text.now) in
    let cut : c.args.self.now ≡ take c.in-Some.end text.now ∷ pieces rest =
    sym c.self.view_is
    ∙ subst (λ end. MatchOption end (unread c.self.inside.rest ≡ text.now ∷ []) (λ end. unread c.self.inside.rest ≡ take end text.now ∷ pieces (drop (end + 1) text.now))) c.in-Some.is
    (first_cut c.self.inside.rest text c.position.result c.in_ok-text.was at)
    ∙ ap (λ xs. take c.in-Some.end text.now ∷ pieces xs) (sym (take_rest text.now (c.in-Some.end + 1))) in
    record { steps = cut; goes = record { on = λ f. (tt, f, omega (arith, ap length cut)); keeps = tt; rests = λ f. tt } }
