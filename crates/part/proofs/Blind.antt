-- A locked part does what it does, and says what it says, whatever its user words are.
use Rattle.std.proofs.Common.{◌≡◌, ℕ, Bool, true, false, cond, eqb, ltb, List, [], ◌∷◌, ◌++◌, length, get_or, Some, None, Ok, Err, Option, Result, sym, refl, ap, ◌∙◌, subst}
use Rattle.commands.specs.declared.codes.Code.TheVariants.{NotAllowed, WrongLength, WrongParameter, UnknownCommand}
use Rattle.commands.specs.declared.codes.Refusal.{Refusal}
use Rattle.commands.specs.declared.codes.Refusal.TheVariants.{Local, Code as Answer}
use Rattle.commands.specs.declared.kinds.Kind.{Kind}
use Rattle.commands.specs.declared.kinds.Kind.TheVariants.{Get, Read, Write as WriteKind, MemoryCrc, Erase, Protect, Unprotect}
use Rattle.commands.specs.declared.kinds.Level.{Level}
use Rattle.commands.specs.declared.kinds.Level.TheVariants.{Locked}
use Rattle.frame.specs.declared.layout.Flaw.{Flaw}
use Rattle.frame.specs.Flaws.{stopped_by}
use Rattle.commands.specs.Kinds.{kind_of, forbidden}
use Rattle.frame.specs.Layout.{Held, total, length_field, opened, command_head, command_most}
use Rattle.frame.specs.Places.{stop_command, stop_frame, judged}
use Rattle.commands.specs.Requests.{Request, get, unprotect, request_of, wrong_length, wrong_parameter, out_of_range}
use Rattle.flash.specs.Cuts.{Way, old, new, junk, cut_written}
use Rattle.flash.specs.Effects.{Write, no_write, program_word, erase_page, set_options, written}
use Rattle.flash.specs.Meaning.{Meaning, without_words}
use Rattle.part.specs.declared.identity.Identity.{Identity}
use Rattle.part.specs.Events.{Event, byte, work, ask_fault, reset, cut, cut_work, step, says, byte_said, after_byte, hears, busy, work_said, work_writes, after_portion, next_portion, least_buffer, small_buffer, silent}
use Rattle.part.specs.Laws.{without_junk, without_junk_way}
use Rattle.part.specs.Parts.{Part, Wire, Hand, none, unprotecting, doing, started, outward}
use Rattle.part.specs.Receiving.{Heard, heard, connected_byte, unconnected_byte, framing, answered, served, waiting, answering, code_answer}
use Rattle.part.specs.Working.{Portion, portion}

-- what a locked part may have in hand
abbrev pub Lockable : Hand → Type 0
Lockable none = Unit {0}
Lockable (unprotecting k) = Unit {0}
Lockable (doing task) = ⊥

-- what a byte may bring a locked part to take up
abbrev pub Fresh : Hand → Type 0
Fresh none = Unit {0}
Fresh (unprotecting k) = k ≡ 0
Fresh (doing task) = ⊥

-- ---- a byte

-- a test of a judgement holds at level 1 where it holds of every refusal, of a Get and of an Unprotect
module _ (Q : Result Request Refusal → Type 0) (refusal : (e : Refusal) → Q (Err e)) where
  through : (a b : Bool) (q : Request) → Q (Ok q) → Q (cond a (Err (Answer WrongLength)) (cond b (Err (Answer WrongParameter)) (Ok q)))
  through true b q t = refusal (Answer WrongLength)
  through false true q t = refusal (Answer WrongParameter)
  through false false q t = t

  module _ (gets : (n : ℕ) → Q (Ok (get n))) (unprotects : Q (Ok unprotect)) (pages : ℕ) where
    command_locked : (o : Option Kind) (d : List ℕ) → Q (stop_command (forbidden Locked) (out_of_range pages) o d)
    command_locked None d = refusal (Answer UnknownCommand)
    command_locked (Some Get) d =
        through (wrong_length Get (length d)) (wrong_parameter (request_of Get d)) (get (get_or d 0 0)) (gets (get_or d 0 0))
    command_locked (Some Read) d = refusal (Answer NotAllowed)
    command_locked (Some WriteKind) d = refusal (Answer NotAllowed)
    command_locked (Some MemoryCrc) d = refusal (Answer NotAllowed)
    command_locked (Some Erase) d = refusal (Answer NotAllowed)
    command_locked (Some Protect) d = refusal (Answer NotAllowed)
    command_locked (Some Unprotect) d = through (wrong_length Unprotect (length d)) false unprotect unprotects

    frame_locked : (r : Result Held Flaw) → Q (stop_frame (forbidden Locked) (out_of_range pages) r)
    frame_locked (Ok h) = command_locked (kind_of h.tag) h.bytes
    frame_locked (Err flaw) = refusal (stopped_by flaw)

    judged_locked : (f : List ℕ) → Q (judged Locked pages f)
    judged_locked f = frame_locked (opened command_head command_most f)

module _ (i : Identity) (m : Meaning) where
  -- a judgement is answered without a look at the user words
  abbrev SameAnswer : Result Request Refusal → Type 0
  SameAnswer r = answered i Locked m r ≡ answered i Locked (without_words m) r

  same_refusal : (e : Refusal) → SameAnswer (Err e)
  same_refusal (Local l) = refl
  same_refusal (Answer c) = refl

  same_get : (n : ℕ) → SameAnswer (Ok (get n))
  unfolding served
  same_get n = refl

  same_unprotect : SameAnswer (Ok unprotect)
  unfolding served
  same_unprotect = refl

  answered_blind : (f : List ℕ) → SameAnswer (judged Locked m.pages f)
  answered_blind f = judged_locked SameAnswer same_refusal same_get same_unprotect m.pages f

  framing_blind : (f : List ℕ) → framing i Locked m f ≡ framing i Locked (without_words m) f
  unfolding framing
  framing_blind f =
      ap (λ h. cond (ltb (length f) 4) (waiting f) (cond (ltb command_most (length_field f)) (answering (code_answer WrongLength)) (cond (eqb (length f) (total (length_field f))) h (waiting f))))
      (answered_blind f)

  connected_blind : (f : List ℕ) (b : ℕ) → connected_byte i Locked m f b ≡ connected_byte i Locked (without_words m) f b
  connected_blind [] b = refl
  connected_blind (x ∷ f) b = framing_blind ((x ∷ f) ++ (b ∷ []))

  heard_blind : (w : Wire) (b : ℕ) → heard i Locked m w b ≡ heard i Locked (without_words m) w b
  heard_blind w b = ap (λ h. cond w.connected h (unconnected_byte b)) (connected_blind w.frame b)

pub hears_blind : (p : Part) (b : ℕ) → p.level ≡ Locked → hears p b ≡ hears (outward p) b
hears_blind p b e =
    ap (λ l. heard p.identity l p.flash p.wire b) e
    ∙ heard_blind p.identity p.flash p.wire b
    ∙ sym (ap (λ l. heard p.identity l (without_words p.flash) p.wire b) e)

-- ---- what a byte brings a part to take up

-- a test of the command in hand holds of what a byte is taken up as, where it holds of none and of every judgement's
module _ (Q : Hand → Type 0) (nothing : Q none) (i : Identity) (level : Level) (m : Meaning)
    (judgement : (f : List ℕ) → Q (answered i level m (judged level m.pages f)).takes) where
  either : (c : Bool) (x y : Heard) → Q x.takes → Q y.takes → Q (cond c x y).takes
  either true x y s t = s
  either false x y s t = t

  framing_takes : (f : List ℕ) → Q (framing i level m f).takes
  unfolding framing
  framing_takes f =
      either (ltb (length f) 4) _ _ nothing
      (either (ltb command_most (length_field f)) _ _ nothing
      (either (eqb (length f) (total (length_field f))) _ _ (judgement f) nothing))

  connected_takes : (f : List ℕ) (b : ℕ) → Q (connected_byte i level m f b).takes
  connected_takes [] b = either (eqb b 0x5A) _ _ nothing (either (eqb b 0x85) _ _ nothing nothing)
  connected_takes (x ∷ f) b = framing_takes ((x ∷ f) ++ (b ∷ []))

  pub heard_takes : (w : Wire) (b : ℕ) → Q (heard i level m w b).takes
  heard_takes w b = either w.connected _ _ (connected_takes w.frame b) (either (eqb b 0x5A) _ _ nothing nothing)

module _ (i : Identity) (m : Meaning) where
  abbrev TakesFresh : Result Request Refusal → Type 0
  TakesFresh r = Fresh (answered i Locked m r).takes

  fresh_refusal : (e : Refusal) → TakesFresh (Err e)
  fresh_refusal (Local l) = tt
  fresh_refusal (Answer c) = tt

  fresh_get : (n : ℕ) → TakesFresh (Ok (get n))
  unfolding served
  fresh_get n = tt

  fresh_unprotect : TakesFresh (Ok unprotect)
  unfolding served
  fresh_unprotect = refl

  judged_fresh : (f : List ℕ) → TakesFresh (judged Locked m.pages f)
  judged_fresh f = judged_locked TakesFresh fresh_refusal fresh_get fresh_unprotect m.pages f

pub hears_fresh : (p : Part) (b : ℕ) → p.level ≡ Locked → Fresh (hears p b).takes
hears_fresh p b e =
    subst (λ l. Fresh (heard p.identity l p.flash p.wire b).takes) (sym e)
    (heard_takes Fresh tt p.identity Locked p.flash (judged_fresh p.identity p.flash) p.wire b)

-- ---- a portion

pub portion_blind : (h : Hand) (m : Meaning) → Lockable h → portion h m ≡ portion h (without_words m)
portion_blind none m l = refl
portion_blind (unprotecting k) m l = refl
portion_blind (doing task) m l = absurd l

written_blind : (w : Write) (m : Meaning) → without_words (written w m) ≡ without_words (written w (without_words m))
written_blind no_write m = refl
written_blind (program_word i v) m = refl
written_blind (erase_page k) m = refl
written_blind (set_options os) m = refl

falls_blind : (falls : Bool) (a b c d : Meaning) → without_words a ≡ without_words c → without_words b ≡ without_words d
    → without_words (cond falls a b) ≡ without_words (cond falls c d)
falls_blind true a b c d e f = e
falls_blind false a b c d e f = f

cut_blind : (y : Way) (w : Write) (m : Meaning) → without_words (cut_written y w m) ≡ without_words (cut_written (without_junk_way y) w (without_words m))
cut_blind old w m = refl
cut_blind new w m = written_blind w m
cut_blind (junk us os falls) no_write m = refl
cut_blind (junk us os falls) (program_word i v) m = refl
cut_blind (junk us os falls) (erase_page k) m = falls_blind falls _ _ _ _ refl refl
cut_blind (junk us os falls) (set_options ws) m = falls_blind falls _ _ _ _ refl refl

-- ---- an event

module _ (p : Part) (locked : p.level ≡ Locked) (lockable : Lockable p.hand) where
  abbrev q : Part
  q = outward p

  next_blind : next_portion p ≡ next_portion q
  next_blind = portion_blind p.hand p.flash lockable

  byte_blind : (c d : Bool) (h : Heard) → outward (cond c p (cond d p (after_byte p h))) ≡ outward (cond c q (cond d q (after_byte q h)))
  byte_blind true d h = refl
  byte_blind false true h = refl
  byte_blind false false h = refl

  -- a part with another flash
  refilled : Portion → Meaning → Part
  refilled w f = record {
    identity = p.identity;
    wire = p.wire;
    hand = (after_portion p w).hand;
    ticket = (after_portion p w).ticket;
    level = p.level;
    last = (after_portion p w).last;
    flash = f;
  }

  work_blind : (c : Bool) (w : Portion) → outward (cond c p (after_portion p w)) ≡ outward (cond c q (after_portion q w))
  unfolding refilled
  work_blind true w = refl
  work_blind false w = ap (refilled w) (written_blind w.writes p.flash)

  writes_blind : (room : ℕ) → work_writes p room ≡ work_writes q room
  writes_blind room = ap (λ w. cond (ltb room least_buffer) no_write w.writes) next_blind

  restart_blind : (c : Bool) → outward (cond c (started p.identity p.flash) p) ≡ outward (cond c (started q.identity q.flash) q)
  restart_blind true = refl
  restart_blind false = refl

  pub step_blind : (e : Event) → outward (step p e) ≡ outward (step q (without_junk e))
  unfolding step
  step_blind (byte b room) =
      byte_blind (ltb room least_buffer) (busy p) (hears p b)
      ∙ ap (λ h. outward (cond (ltb room least_buffer) q (cond (busy p) q (after_byte q h)))) (hears_blind p b locked)
  step_blind (work room) =
      work_blind (ltb room least_buffer) (next_portion p)
      ∙ ap (λ w. outward (cond (ltb room least_buffer) q (after_portion q w))) next_blind
  step_blind ask_fault = refl
  step_blind reset = restart_blind p.ticket
  step_blind cut = refl
  step_blind (cut_work room way) =
      ap (λ f. outward (started p.identity f)) (cut_blind way (work_writes p room) p.flash)
      ∙ ap (λ w. outward (started p.identity (cut_written (without_junk_way way) w (without_words p.flash)))) (writes_blind room)

  pub says_blind : (e : Event) → says p e ≡ says q (without_junk e)
  unfolding says
  says_blind (byte b room) = ap (λ h. cond (ltb room least_buffer) small_buffer (cond (busy p) silent (byte_said h.reply))) (hears_blind p b locked)
  says_blind (work room) = ap (λ w. cond (ltb room least_buffer) small_buffer (work_said w.outcome)) next_blind
  says_blind ask_fault = refl
  says_blind reset = refl
  says_blind cut = refl
  says_blind (cut_work room way) = refl
