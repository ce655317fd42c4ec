-- The laws over whole runs.
use Rattle.std.proofs.Common.{◌≡◌, ℕ, ◌*◌, ◌<◌, List, [], ◌∷◌, ◌++◌, sym, refl, ap, ◌∙◌, subst, ap₂, arith}
use Rattle.std.proofs.lemmas.List.{append-nil, append_assoc, ext_get_or}
use Rattle.commands.specs.declared.kinds.Level.{Level}
use Rattle.commands.specs.declared.kinds.Level.TheVariants.{Open, Locked}
use Rattle.flash.specs.Meaning.{Meaning, Sound}
use Rattle.part.specs.Events.{Event, step, says, run, answers, Happening, happened, history}
use Rattle.part.specs.Laws.{without_junk, OneEvent, OneList, LockedTwinsAnswerAlike, OpensOnlyErased, AllBlank}
use Rattle.part.specs.Parts.{Part, Hand, none, unprotecting, doing, started, outward}
use Rattle.part.proofs.Blind.{Lockable, step_blind, says_blind}
use Rattle.part.proofs.Sounds.{Held, SoundPart, sound_step, sound_after, opens_step}

-- ---- it opens only erased

history_more : (p : Part) (es : List Event) (e : Event) → history p (es ++ e ∷ []) ≡ history p es ++ happened (run p es) e
history_more p [] e = append-nil (happened p e)
history_more p (x ∷ es) e =
    ap (λ h. happened p x ++ h) (history_more (step p x) es e)
    ∙ sym (append_assoc (happened p x) (history (step p x) es) (happened (run (step p x) es) e))

pub opens_only_erased : OpensOnlyErased
opens_only_erased i m s es e l o =
    let p = started i m in
    let x = opens_step m.pages (run p es) (history p es) e (sound_after i m es s) l o in
    (x.0, subst (λ h. Rattle.part.specs.Laws.ErasedSinceUnprotect m.pages h) (sym (history_more p es e)) x.1)

-- ---- twins

-- a part with its user words put back
refill : Part → List ℕ → Part
refill p ws = record {
  identity = p.identity;
  wire = p.wire;
  hand = p.hand;
  ticket = p.ticket;
  level = p.level;
  last = p.last;
  flash = record {
    pages = p.flash.pages;
    words = ws;
    options = p.flash.options;
    erases_left = p.flash.erases_left;
    option_writes_left = p.flash.option_writes_left;
  };
}

-- equal in all but user words, and in these too: equal
join : (p q : Part) → outward p ≡ outward q → p.flash.words ≡ q.flash.words → p ≡ q
unfolding refill
join p q e w = ap₂ refill e w

blank_words : (m n : Meaning) → Sound m → Sound n → m.pages ≡ n.pages → AllBlank m → AllBlank n → m.words ≡ n.words
blank_words m n s t e a b =
    ext_get_or 0 m.words n.words (s.filled ∙ ap (λ (k : ℕ). 128 * k) e ∙ sym t.filled)
    (λ i l.
    let x : i < 128 * m.pages = omega (arith, s.filled) in
    let y : i < 128 * n.pages = omega (arith, s.filled) in
    a i x ∙ sym (b i y))

held_lockable : (hand : Hand) (m : Meaning) (h : List Happening) → Held hand m h → Lockable hand
held_lockable none m h x = tt
held_lockable (unprotecting k) m h x = tt
held_lockable (doing task) m h x = absurd x

-- what holds of twins along one list
record Twins (pages other : ℕ) (p q : Part) (h g : List Happening) : Type 0 where
  alike : outward p ≡ outward q
  same : p.level ≡ Open → p ≡ q
  left : SoundPart pages p h
  right : SoundPart other q g

record Alike (pages other : ℕ) (p q : Part) (h g : List Happening) (e f : Event) : Type 0 where
  twins : Twins pages other (step p e) (step q f) (h ++ happened p e) (g ++ happened q f)
  said : says p e ≡ says q f

module _ (pages other : ℕ) (p q : Part) (h g : List Happening) (t : Twins pages other p q h g) (e f : Event) where
  open_alike : p.level ≡ Open → e ≡ f → Alike pages other p q h g e f
  open_alike o x =
      let s : step p e ≡ step q f = ap₂ step (t.same o) x in
      record {
        twins = record {
          alike = ap outward s;
          same = λ _. s;
          left = sound_step pages p h e t.left;
          right = sound_step other q g f t.right;
        };
        said = ap₂ says (t.same o) x;
      }

  module _ (l : p.level ≡ Locked) (x : without_junk e ≡ without_junk f) where
    abbrev r : q.level ≡ Locked
    r = sym (ap (λ a. a.level) t.alike) ∙ l

    p_lockable : Lockable p.hand
    p_lockable = held_lockable p.hand p.flash h (t.left.held l)

    q_lockable : Lockable q.hand
    q_lockable = held_lockable q.hand q.flash g (t.right.held r)

    stepped : outward (step p e) ≡ outward (step q f)
    stepped = step_blind p l p_lockable e ∙ ap₂ (λ a b. outward (step a b)) t.alike x ∙ sym (step_blind q r q_lockable f)

    spoken : says p e ≡ says q f
    spoken = says_blind p l p_lockable e ∙ ap₂ says t.alike x ∙ sym (says_blind q r q_lockable f)

    opened_same : (step p e).level ≡ Open → step p e ≡ step q f
    opened_same o =
        let o' : (step q f).level ≡ Open = sym (ap (λ a. a.level) stepped) ∙ o in
        let a = sound_step pages p h e t.left in
        let b = sound_step other q g f t.right in
        join (step p e) (step q f) stepped
        (blank_words (step p e).flash (step q f).flash a.limits b.limits (ap (λ y. y.flash.pages) stepped)
        (opens_step pages p h e t.left l o).0 (opens_step other q g f t.right r o').0)

    locked_alike : Alike pages other p q h g e f
    locked_alike = record {
      twins = record { alike = stepped; same = opened_same; left = sound_step pages p h e t.left; right = sound_step other q g f t.right };
      said = spoken;
    }

  level_alike : (l : Level) → p.level ≡ l → OneEvent l e f → Alike pages other p q h g e f
  level_alike Open x one = open_alike x one
  level_alike Locked x one = locked_alike x one

  event_alike : OneEvent p.level e f → Alike pages other p q h g e f
  event_alike one = level_alike p.level refl one

answers_alike : (pages other : ℕ) (p q : Part) (h g : List Happening) (es fs : List Event) → Twins pages other p q h g → OneList p es fs → answers p es ≡ answers q fs
answers_alike pages other p q h g [] [] t one = refl
answers_alike pages other p q h g [] (f ∷ fs) t one = absurd one
answers_alike pages other p q h g (e ∷ es) [] t one = absurd one
answers_alike pages other p q h g (e ∷ es) (f ∷ fs) t one =
    let a = event_alike pages other p q h g t e f one.0 in
    let report = ap (λ x. x.last) a.twins.alike in
    let rest = answers_alike pages other (step p e) (step q f) (h ++ happened p e) (g ++ happened q f) es fs a.twins one.1 in
    λ j. record { said = a.said j; report = report j } ∷ rest j

pub locked_twins_answer_alike : LockedTwinsAnswerAlike
locked_twins_answer_alike i j m n s t own other l x es fs one =
    answers_alike m.pages n.pages (run (started i m) own) (run (started j n) other) (history (started i m) own) (history (started j n) other) es fs
    (record {
      alike = x;
      same = λ o. let z : ◌≡◌ {A = ℕ} 0 1 = cc in absurd (omega arith);
      left = sound_after i m own s;
      right = sound_after j n other t;
    }) one
