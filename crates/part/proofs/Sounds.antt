-- What holds of a part along every run: the flash keeps its limits, a locked part has nothing in hand but an Unprotect whose
-- pages are erased so far, and one whose option words already say open has every page erased and its ticket out.
use Rattle.std.proofs.Common.{◌≡◌, ℕ, ◌+◌, ◌-◌, ◌*◌, ◌<◌, ◌≤◌, Bool, true, false, cond, ◌||◌, ltb, List, [], ◌∷◌, ◌++◌, get_or, Ok, Err, Result, sym, refl, ap, ◌∙◌, subst, ⊎_elim, arith}
use Rattle.std.proofs.lemmas.List.{append-nil, append_assoc}
use Rattle.std.proofs.lemmas.Bool.{ltb-false, cases_lt, cond_both}
use Rattle.std.proofs.lemmas.Bool.Decides.{nat_tests}
use Rattle.commands.specs.declared.kinds.Level.{Level}
use Rattle.commands.specs.declared.kinds.Level.TheVariants.{Open, Locked}
use Rattle.flash.specs.declared.fault.FlashFault.{FlashFault}
use Rattle.flash.specs.Cuts.{Way, old, new, junk, cut_written}
use Rattle.flash.specs.Effects.{Write, no_write, erase_page, set_options, written, erase_answer, erase_write, options_answer, word_answer}
use Rattle.flash.specs.Meaning.{Meaning, Sound, blank}
use Rattle.flash.proofs.Lawful.{cuts_keep_limits, cuts_alter_only_their_write, writes_are_read_back}
use Rattle.part.specs.declared.identity.Identity.{Identity}
use Rattle.part.specs.Events.{Event, byte, work, ask_fault, reset, cut, cut_work, step, run, after_byte, hears, busy, in_hand, work_writes, after_portion, next_portion, ticket_after, least_buffer, Happening, happened, history, taking_happened, write_happened}
use Rattle.part.specs.Laws.{ErasedSinceUnprotect, AllBlank}
use Rattle.part.specs.Levels.{level_of}
use Rattle.part.specs.Parts.{Part, Hand, none, unprotecting, doing, started, restarted}
use Rattle.part.specs.Receiving.{Heard}
use Rattle.part.specs.Working.{Portion, going, done_ticket, portion, written_as}
use Rattle.part.proofs.Blind.{Fresh, hears_fresh}
use Rattle.part.proofs.Histories.{taken_now, erased_next, fewer, unchanged}

-- ---- words

-- the words of the first k pages read 0xFFFFFFFF
abbrev pub BlankBelow : ℕ → Meaning → Type 0
BlankBelow k m = (i : ℕ) → i < 128 * k → i < 128 * m.pages → get_or m.words i 0 ≡ blank

pub all_from : (k : ℕ) (m : Meaning) → m.pages ≤ k → BlankBelow k m → AllBlank m
all_from k m h b i l = b i (omega arith) l

pages_same : (y : Way) (w : Write) (m : Meaning) → (cut_written y w m).pages ≡ m.pages
pages_same y w m = (cuts_alter_only_their_write y w m).pages

read_blank : (n : Meaning) (i : ℕ) → i < 128 * n.pages → word_answer n i ≡ Ok blank → get_or n.words i 0 ≡ blank
read_blank n i l e = grind (arith, nat_tests)

erase_served : (m : Meaning) (k : ℕ) → erase_answer m k ≡ Ok tt → erase_write m k ≡ erase_page k
erase_served m k e = grind (arith, nat_tests)

-- an erased page more
blank_more : (m : Meaning) (k : ℕ) → Sound m → erase_answer m k ≡ Ok tt → BlankBelow k m → BlankBelow (k + 1) (written (erase_page k) m)
blank_more m k s e b i l r =
    ⊎_elim
    (λ (below : i < 128 * k).
    (cuts_alter_only_their_write new (erase_page k) m).words i (λ n. absurd (omega (arith, n)))
    ∙ b i below (subst (λ (p : ℕ). i < 128 * p) (pages_same new (erase_page k) m) r))
    (λ (above : 128 * k ≤ i).
    let here : i ≡ 128 * k + (i - 128 * k) = omega arith in
    let inside : i - 128 * k < 128 = omega arith in
    let told = writes_are_read_back.erase m k (i - 128 * k) s e inside in
    read_blank (written (erase_page k) m) i r
    (subst (λ (j : ℕ). word_answer (written (erase_page k) m) j ≡ Ok blank) (sym here)
    (ap (λ w. word_answer (written w m) (128 * k + (i - 128 * k))) (sym (erase_served m k e)) ∙ told)))
    (cases_lt i (128 * k))

-- ---- what holds of a part

-- what a locked part has in hand
abbrev pub Held : Hand → Meaning → List Happening → Type 0
Held none m h = Unit {0}
Held (unprotecting k) m h = BlankBelow k m × ErasedSinceUnprotect k h
Held (doing task) m h = ⊥

-- what holds once a locked part's option words say open
pub record Opened (ticket : Bool) (hand : Hand) (m : Meaning) (h : List Happening) : Type 0 where
  pub out : ticket ≡ true
  pub idle : hand ≡ none
  pub blank : AllBlank m
  pub since : ErasedSinceUnprotect m.pages h

abbrev option_level : Meaning → Level
option_level m = level_of (get_or m.options 0 0)

pub record SoundPart (pages : ℕ) (p : Part) (h : List Happening) : Type 0 where
  pub limits : Sound p.flash
  pub sized : p.flash.pages ≡ pages
  pub held : p.level ≡ Locked → Held p.hand p.flash h
  pub opened : p.level ≡ Locked → option_level p.flash ≡ Open → Opened p.ticket p.hand p.flash h

two_levels : {X : Type 0} (l : Level) → l ≡ Locked → l ≡ Open → X
two_levels l e f = let z : ◌≡◌ {A = ℕ} 0 1 = cc in absurd (omega arith)

-- a part that has just started
pub sound_started : (i : Identity) (m : Meaning) (h : List Happening) → Sound m → SoundPart m.pages (started i m) h
sound_started i m h s = record { limits = s; sized = refl; held = λ _. tt; opened = λ e f. two_levels (option_level m) e f }

restarts : (pages : ℕ) (i : Identity) (m : Meaning) (h : List Happening) → Sound m → m.pages ≡ pages → SoundPart pages (started i m) h
restarts pages i m h s e = subst (λ (n : ℕ). SoundPart n (started i m) h) e (sound_started i m h s)

-- nothing more happened
stays : (pages : ℕ) (p : Part) (h : List Happening) → SoundPart pages p h → SoundPart pages p (h ++ [])
stays pages p h s = subst (SoundPart pages p) (sym (append-nil h)) s

-- ---- a byte

fresh_held : (hand : Hand) (m : Meaning) (h : List Happening) → Fresh hand → Held hand m (h ++ taking_happened hand)
fresh_held none m h f = tt
fresh_held (unprotecting k) m h f = (
  λ i l. absurd (omega (arith, f)),
  subst (λ (n : ℕ). ErasedSinceUnprotect n (h ++ taking_happened (unprotecting k))) (sym f) (taken_now h),
)
fresh_held (doing task) m h f = absurd f

ticket_busy : (t b : Bool) → t ≡ true → (t || b) ≡ false → ⊥
ticket_busy true b e f = let z : ◌≡◌ {A = ℕ} 0 1 = cc in omega arith
ticket_busy false b e f = let z : ◌≡◌ {A = ℕ} 0 1 = cc in omega arith

sound_heard : (pages : ℕ) (p : Part) (h : List Happening) (x : Heard) (c d : Bool) → SoundPart pages p h → busy p ≡ d → (p.level ≡ Locked → Fresh x.takes)
    → SoundPart pages (cond c p (cond d p (after_byte p x))) (h ++ cond c [] (cond d [] (taking_happened x.takes)))
sound_heard pages p h x true d s e f = stays pages p h s
sound_heard pages p h x false true s e f = stays pages p h s
sound_heard pages p h x false false s e f = record {
  limits = s.limits;
  sized = s.sized;
  held = λ l. fresh_held x.takes p.flash h (f l);
  opened = λ l o. absurd (ticket_busy p.ticket (in_hand p.hand) (s.opened l o).out e);
}

-- ---- a portion

-- what a portion of a locked part's command keeps
record Kept (ticket : Bool) (m : Meaning) (h : List Happening) (w : Portion) : Type 0 where
  held : Held w.hand (written w.writes m) (h ++ write_happened w.writes)
  opened : option_level (written w.writes m) ≡ Open → Opened (ticket_after w.outcome ticket) w.hand (written w.writes m) (h ++ write_happened w.writes)

module _ (ticket : Bool) (m : Meaning) (h : List Happening) (s : Sound m) where
  idle_kept : (option_level m ≡ Open → Opened ticket none m h) → Kept ticket m h (portion none m)
  idle_kept o = record { held = tt; opened = λ e. subst (Opened ticket none m) (sym (append-nil h)) (o e) }

  module _ (k : ℕ) (b : BlankBelow k m) (since : ErasedSinceUnprotect k h) (shut : option_level m ≡ Open → ⊥) where
    erasing_kept : (r : Result (Unit {0}) FlashFault) → erase_answer m k ≡ r → Kept ticket m h (written_as r (erase_page k) (unprotecting (k + 1)) going)
    erasing_kept (Ok u) e = record {
      held = (blank_more m k s e b, erased_next k h since);
      opened = λ o. absurd (shut o);
    }
    erasing_kept (Err f) e = record { held = tt; opened = λ o. absurd (shut o) }

    opening_kept : m.pages ≤ k → (os : List ℕ) (r : Result (Unit {0}) FlashFault) → Kept ticket m h (written_as r (set_options os) none done_ticket)
    opening_kept l os (Ok u) = record {
      held = tt;
      opened = λ o. record { out = refl; idle = refl; blank = all_from k m l b; since = unchanged m.pages h (fewer k m.pages h l since) };
    }
    opening_kept l os (Err f) = record { held = tt; opened = λ o. absurd (shut o) }

    unprotect_kept : Kept ticket m h (portion (unprotecting k) m)
    unprotect_kept =
        cond_both (ltb k m.pages) _ _ (Kept ticket m h)
        (λ t. erasing_kept (erase_answer m k) refl)
        (λ f. opening_kept (ltb-false k m.pages f) _ (options_answer m))

no_hand : {X : Type 0} (k : ℕ) → unprotecting k ≡ none → X
no_hand k e = let z : ◌≡◌ {A = ℕ} 0 1 = cc in absurd (omega arith)

portion_kept : (ticket : Bool) (hand : Hand) (m : Meaning) (h : List Happening) → Sound m → Held hand m h → (option_level m ≡ Open → Opened ticket hand m h)
    → Kept ticket m h (portion hand m)
portion_kept ticket none m h s held o = idle_kept ticket m h s o
portion_kept ticket (unprotecting k) m h s held o = unprotect_kept ticket m h s k held.0 held.1 (λ e. no_hand k (o e).idle)
portion_kept ticket (doing task) m h s held o = absurd held

-- ---- one event

sound_worked : (pages : ℕ) (p : Part) (h : List Happening) (c : Bool) → SoundPart pages p h
    → SoundPart pages (cond c p (after_portion p (next_portion p))) (h ++ write_happened (cond c no_write (next_portion p).writes))
sound_worked pages p h true s = stays pages p h s
sound_worked pages p h false s =
    let w = next_portion p in
    let kept : p.level ≡ Locked → Kept p.ticket p.flash h w = λ l. portion_kept p.ticket p.hand p.flash h s.limits (s.held l) (s.opened l) in
    record {
      limits = cuts_keep_limits new w.writes p.flash s.limits;
      sized = pages_same new w.writes p.flash ∙ s.sized;
      held = λ l. (kept l).held;
      opened = λ l o. (kept l).opened o;
    }

sound_reset : (pages : ℕ) (p : Part) (h : List Happening) (t : Bool) → SoundPart pages p h → SoundPart pages (cond t (restarted p) p) (h ++ [])
sound_reset pages p h true s = restarts pages p.identity p.flash (h ++ []) s.limits s.sized
sound_reset pages p h false s = stays pages p h s

pub sound_step : (pages : ℕ) (p : Part) (h : List Happening) (e : Event) → SoundPart pages p h → SoundPart pages (step p e) (h ++ happened p e)
unfolding step happened
sound_step pages p h (byte b room) s = sound_heard pages p h (hears p b) (ltb room least_buffer) (busy p) s refl (hears_fresh p b)
sound_step pages p h (work room) s = sound_worked pages p h (ltb room least_buffer) s
sound_step pages p h ask_fault s = stays pages p h s
sound_step pages p h reset s = sound_reset pages p h p.ticket s
sound_step pages p h cut s = restarts pages p.identity p.flash (h ++ []) s.limits s.sized
sound_step pages p h (cut_work room way) s =
    restarts pages p.identity (cut_written way (work_writes p room) p.flash) (h ++ [])
    (cuts_keep_limits way (work_writes p room) p.flash s.limits)
    (pages_same way (work_writes p room) p.flash ∙ s.sized)

-- ---- a whole run

pub sound_run : (pages : ℕ) (p : Part) (h : List Happening) (es : List Event) → SoundPart pages p h → SoundPart pages (run p es) (h ++ history p es)
sound_run pages p h [] s = stays pages p h s
sound_run pages p h (e ∷ es) s =
    subst (SoundPart pages (run (step p e) es)) (append_assoc h (happened p e) (history (step p e) es))
    (sound_run pages (step p e) (h ++ happened p e) es (sound_step pages p h e s))

-- a part after a start and a list
pub sound_after : (i : Identity) (m : Meaning) (es : List Event) → Sound m → SoundPart m.pages (run (started i m) es) (history (started i m) es)
sound_after i m es s = sound_run m.pages (started i m) [] es (sound_started i m [] s)

-- ---- where the level opens

abbrev Opens : ℕ → Part → List Happening → Type 0
Opens pages p h = AllBlank p.flash × ErasedSinceUnprotect pages h

opens_from : (pages : ℕ) (p : Part) (h : List Happening) → SoundPart pages p h → p.level ≡ Locked → option_level p.flash ≡ Open
    → Opens pages (restarted p) (h ++ [])
opens_from pages p h s l o =
    let x = s.opened l o in
    (x.blank, unchanged pages h (subst (λ (n : ℕ). ErasedSinceUnprotect n h) s.sized x.since))

heard_level : (p : Part) (x : Heard) (c d : Bool) → (cond c p (cond d p (after_byte p x))).level ≡ p.level
heard_level p x true d = refl
heard_level p x false true = refl
heard_level p x false false = refl

worked_level : (p : Part) (w : Portion) (c : Bool) → (cond c p (after_portion p w)).level ≡ p.level
worked_level p w true = refl
worked_level p w false = refl

reset_opens : (pages : ℕ) (p : Part) (h : List Happening) (t : Bool) → SoundPart pages p h → p.level ≡ Locked → (cond t (restarted p) p).level ≡ Open
    → Opens pages (cond t (restarted p) p) (h ++ [])
reset_opens pages p h true s l o = opens_from pages p h s l o
reset_opens pages p h false s l o = two_levels p.level l o

-- a cut inside a work call: only the option write can open, and then every page is erased
module _ (pages : ℕ) (i : Identity) (m : Meaning) (h : List Happening) (sized : m.pages ≡ pages) (way : Way) where
  abbrev CutOpens : Write → Type 0
  CutOpens w = option_level (cut_written way w m) ≡ Open → Opens pages (started i (cut_written way w m)) (h ++ [])

  -- a write that leaves the option words does not open a part that is shut
  stays_shut : (w : Write) → (cut_written way w m).options ≡ m.options → (option_level m ≡ Open → ⊥) → CutOpens w
  stays_shut w e shut o = absurd (shut (ap (λ os. level_of (get_or os 0 0)) (sym e) ∙ o))

  nothing_cut : (y : Way) → cut_written y no_write m ≡ m
  nothing_cut old = refl
  nothing_cut new = refl
  nothing_cut (junk us os falls) = refl

  no_write_opens : (option_level m ≡ Open → Opens pages (started i m) (h ++ [])) → CutOpens no_write
  no_write_opens f o =
      subst (λ n. Opens pages (started i n) (h ++ [])) (sym (nothing_cut way)) (f (ap option_level (sym (nothing_cut way)) ∙ o))

  module _ (k : ℕ) (b : BlankBelow k m) (since : ErasedSinceUnprotect k h) (shut : option_level m ≡ Open → ⊥) where
    erasing_cut : (r : Result (Unit {0}) FlashFault) → CutOpens (written_as r (erase_page k) (unprotecting (k + 1)) going).writes
    erasing_cut (Ok u) = stays_shut (erase_page k) ((cuts_alter_only_their_write way (erase_page k) m).options (λ n. n)) shut
    erasing_cut (Err f) = no_write_opens (λ o. absurd (shut o))

    opening_cut : m.pages ≤ k → (os : List ℕ) (r : Result (Unit {0}) FlashFault) → CutOpens (written_as r (set_options os) none done_ticket).writes
    opening_cut l os (Ok u) o = (
      λ j r.
          (cuts_alter_only_their_write way (set_options os) m).words j (λ n. n)
          ∙ all_from k m l b j (subst (λ (n : ℕ). j < 128 * n) (pages_same way (set_options os) m) r),
      unchanged pages h (fewer k pages h (subst (λ (n : ℕ). n ≤ k) sized l) since),
    )
    opening_cut l os (Err f) o = no_write_opens (λ x. absurd (shut x)) o

    unprotect_cut : CutOpens (portion (unprotecting k) m).writes
    unprotect_cut =
        cond_both (ltb k m.pages) _ _ (λ (w : Portion). CutOpens w.writes)
        (λ t. erasing_cut (erase_answer m k))
        (λ f. opening_cut (ltb-false k m.pages f) _ (options_answer m))

  hand_cut : (ticket : Bool) (hand : Hand) → Held hand m h → (option_level m ≡ Open → Opened ticket hand m h) → CutOpens (portion hand m).writes
  hand_cut ticket none held o =
      no_write_opens (λ e. ((o e).blank, unchanged pages h (subst (λ (n : ℕ). ErasedSinceUnprotect n h) sized (o e).since)))
  hand_cut ticket (unprotecting k) held o = unprotect_cut k held.0 held.1 (λ e. no_hand k (o e).idle)
  hand_cut ticket (doing task) held o = absurd held

  work_cut : (ticket : Bool) (hand : Hand) (c : Bool) → Held hand m h → (option_level m ≡ Open → Opened ticket hand m h) → CutOpens (cond c no_write (portion hand m).writes)
  work_cut ticket hand true held o =
      no_write_opens (λ e. ((o e).blank, unchanged pages h (subst (λ (n : ℕ). ErasedSinceUnprotect n h) sized (o e).since)))
  work_cut ticket hand false held o = hand_cut ticket hand held o

pub opens_step : (pages : ℕ) (p : Part) (h : List Happening) (e : Event) → SoundPart pages p h → p.level ≡ Locked → (step p e).level ≡ Open
    → Opens pages (step p e) (h ++ happened p e)
unfolding step happened
opens_step pages p h (byte b room) s l o =
    two_levels p.level l (sym (heard_level p (hears p b) (ltb room least_buffer) (busy p)) ∙ o)
opens_step pages p h (work room) s l o = two_levels p.level l (sym (worked_level p (next_portion p) (ltb room least_buffer)) ∙ o)
opens_step pages p h ask_fault s l o = two_levels p.level l o
opens_step pages p h reset s l o = reset_opens pages p h p.ticket s l o
opens_step pages p h cut s l o = opens_from pages p h s l o
opens_step pages p h (cut_work room way) s l o =
    work_cut pages p.identity p.flash h s.sized way p.ticket p.hand (ltb room least_buffer) (s.held l) (s.opened l) o
