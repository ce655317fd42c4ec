-- A list with one event more.
use Rattle.std.proofs.Common.{◌≡◌, ℕ, ◌+◌, ◌<◌, List, [], ◌∷◌, ◌++◌, length, take, sym, refl, ap, ◌∙◌}
use Rattle.std.proofs.lemmas.List.{map_push}
use Rattle.part.specs.Events as part
use Rattle.part.specs.Parts.{Part}
use Rattle.runs.specs.declared.events.Event.{Event}
use Rattle.runs.specs.declared.events.Row.{Row}
use Rattle.runs.specs.Lists.{event_of, events_of, row_at, row_of, rows_of}

run_more : (p : Part) (es : List part.Event) (e : part.Event) → part.run p (es ++ e ∷ []) ≡ part.step (part.run p es) e
run_more p [] e = refl
run_more p (x ∷ es) e = run_more (part.step p x) es e

answers_more : (p : Part) (es : List part.Event) (e : part.Event) → part.answers p (es ++ e ∷ []) ≡ part.answers p es ++ row_at (part.run p es) e ∷ []
answers_more p [] e = refl
answers_more p (x ∷ es) e = ap (λ rows. row_at p x ∷ rows) (answers_more (part.step p x) es e)

-- one turn of the loop over the events
pub played_more : (p q r : Part) (es : List Event) (i : ℕ) (e : Event) (rows more : List Row) (row : Row) → i < length es
    → take (i + 1) es ≡ take i es ++ e ∷ []
    → rows_of rows ≡ part.answers p (events_of (take i es)) → q ≡ part.run p (events_of (take i es))
    → row_of row ≡ row_at q (event_of e) → r ≡ part.step q (event_of e) → more ≡ rows ++ row ∷ []
    → (rows_of more ≡ part.answers p (events_of (take (i + 1) es))) × (r ≡ part.run p (events_of (take (i + 1) es)))
played_more p q r es i e rows more row h t a b w s m =
    let x = events_of (take i es) in
    let y : events_of (take (i + 1) es) ≡ x ++ event_of e ∷ [] = ap events_of t ∙ map_push event_of (take i es) e in
    let z : rows_of more ≡ rows_of rows ++ row_of row ∷ [] = ap rows_of m ∙ map_push row_of rows row in (
      z ∙ ap (λ (rs : List part.Row). rs ++ row_of row ∷ []) a ∙ ap (λ (k : part.Row). part.answers p x ++ k ∷ []) (w ∙ ap (λ (o : Part). row_at o (event_of e)) b)
          ∙ sym (answers_more p x (event_of e)) ∙ ap (part.answers p) (sym y),
      s ∙ ap (λ (o : Part). part.step o (event_of e)) b ∙ sym (run_more p x (event_of e)) ∙ ap (part.run p) (sym y),
    )
