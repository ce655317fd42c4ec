-- A Memory CRC's register is that of the words done so far, so that its end compares the whole stretch.
use Rattle.std.proofs.Common.{◌≡◌, ℕ, ◌+◌, ◌-◌, ◌<◌, ◌≤◌, min, Bool, true, false, cond, eqb, ltb, leb, List, [], ◌∷◌, ◌++◌, take, drop, Ok, Err, Result, sym, refl, ap, ◌∙◌, subst, arith}
use lib.Bits.{bit_xor}
use Rattle.std.proofs.lemmas.List.{take-append-drop, take-take, drop-take, drop-drop}
use Rattle.std.proofs.lemmas.Bool.{cond_both, cond-true, cond-false, leb-false, le-leb, le-ltb}
use Rattle.checksum.specs.Crc.{feeds, crc}
use Rattle.checksum.proofs.Laws.{joins}
use Rattle.areas.specs.declared.map.Area.{Area}
use Rattle.areas.specs.declared.map.Area.TheVariants.{User, Options, Outside}
use Rattle.commands.specs.declared.codes.Code.TheVariants.{Done, WrongParameter}
use Rattle.commands.specs.declared.codes.Refusal.{Refusal}
use Rattle.commands.specs.declared.codes.Refusal.TheVariants.{Local, Code as Answer}
use Rattle.commands.specs.declared.kinds.Level.{Level}
use Rattle.areas.specs.Areas.{place_of}
use Rattle.frame.specs.Places.{judged}
use Rattle.commands.specs.Requests.{Request, get, read, write, memory_crc, erase, protect, unprotect}
use Rattle.areas.specs.Words.{bytes_of_words}
use Rattle.areas.proofs.Words.{bytes_append}
use Rattle.flash.specs.declared.fault.FlashFault.{FlashFault}
use Rattle.flash.specs.Effects.{Write, written, program_answer, erase_answer, options_answer}
use Rattle.flash.specs.Meaning.{Meaning}
use Rattle.part.specs.declared.identity.Identity.{Identity}
use Rattle.part.specs.Events.{Event, byte, work, ask_fault, reset, cut, cut_work, bytes, step, run, hears, busy, after_byte, after_portion, next_portion, work_said, least_buffer}
use Rattle.part.specs.Laws.{ChecksAnswerForTheStretch}
use Rattle.part.proofs.Blind.{heard_takes}
use Rattle.part.specs.Parts.{Part, Wire, Task, writing, setting, checking, erasing, protecting, Hand, none, unprotecting, doing, started, restarted}
use Rattle.part.specs.Receiving.{Heard, heard, answered, served, write_task, code_answer}
use Rattle.part.specs.Working.{Portion, Outcome, going, done, done_ticket, differs, portion, written_as, task_portion, check_register, check_portion}

-- the words of a stretch that are done
abbrev stretch : Meaning → ℕ → ℕ → List ℕ
stretch m first k = take k (drop first m.words)

abbrev pub TaskChecked : Task → Meaning → Type 0
TaskChecked (writing first bs k) m = Unit {0}
TaskChecked (setting i bs) m = Unit {0}
TaskChecked (checking first count value k register) m = (register ≡ feeds 0xFFFF (bytes_of_words (stretch m first k))) × (k ≤ count)
TaskChecked (erasing first count k) m = Unit {0}
TaskChecked protecting m = Unit {0}

abbrev pub Checked : Hand → Meaning → Type 0
Checked none m = Unit {0}
Checked (unprotecting k) m = Unit {0}
Checked (doing task) m = TaskChecked task m

-- ---- lists

take_split : (a b : ℕ) (xs : List ℕ) → take a xs ++ take b (drop a xs) ≡ take (a + b) xs
take_split a b xs =
    sym (ap (λ x. x ++ take b (drop a xs)) (take-take a (a + b) xs (omega arith)))
    ∙ ap (λ x. take a (take (a + b) xs) ++ x) (sym (drop-take a b xs))
    ∙ take-append-drop a (take (a + b) xs)

-- n words more of a stretch
register_more : (m : Meaning) (first k n register : ℕ) → register ≡ feeds 0xFFFF (bytes_of_words (stretch m first k))
    → feeds register (bytes_of_words (take n (drop (first + k) m.words))) ≡ feeds 0xFFFF (bytes_of_words (stretch m first (k + n)))
register_more m first k n register e =
    let xs = drop first m.words in
    ap (λ y. feeds register (bytes_of_words (take n y))) (sym (drop-drop k first m.words))
    ∙ joins 0xFFFF (bytes_of_words (take k xs)) register e (bytes_of_words (take n (drop k xs)))
    ∙ ap (feeds 0xFFFF) (sym (bytes_append (take k xs) (take n (drop k xs))) ∙ ap bytes_of_words (take_split k n xs))

-- ---- a byte

module _ (m : Meaning) where
  write_checked : (a : Area) (n : ℕ) (bs : List ℕ) → Checked (write_task a n bs) m
  write_checked User n bs = tt
  write_checked Options n bs = tt
  write_checked Outside n bs = tt

  hand_either : (c : Bool) (x y : Hand) → Checked x m → Checked y m → Checked (cond c x y) m
  hand_either true x y s t = s
  hand_either false x y s t = t

  served_checked : (i : Identity) (l : Level) (q : Request) → Checked (served i l m q).takes m
  unfolding served feeds
  served_checked i l (get n) = tt
  served_checked i l (read a n) = tt
  served_checked i l (write a bs) = write_checked (place_of m.pages a).0 (place_of m.pages a).1 bs
  served_checked i l (memory_crc a n v) = (refl, omega arith)
  served_checked i l (erase mode index count) = hand_either (eqb mode 0xAA) _ _ tt (hand_either (eqb mode 0x55) _ _ tt tt)
  served_checked i l protect = tt
  served_checked i l unprotect = tt

  answered_checked : (i : Identity) (l : Level) (r : Result Request Refusal) → Checked (answered i l m r).takes m
  answered_checked i l (Ok q) = served_checked i l q
  answered_checked i l (Err (Answer c)) = tt
  answered_checked i l (Err (Local c)) = tt

  heard_checked : (i : Identity) (l : Level) (w : Wire) (b : ℕ) → Checked (heard i l m w b).takes m
  heard_checked i l w b = heard_takes (λ h. Checked h m) tt i l m (λ f. answered_checked i l (judged l m.pages f)) w b

byte_checked : (p : Part) (x : Heard) (c d : Bool) → Checked p.hand p.flash → Checked x.takes p.flash
    → Checked (cond c p (cond d p (after_byte p x))).hand (cond c p (cond d p (after_byte p x))).flash
byte_checked p x true d s t = s
byte_checked p x false true s t = s
byte_checked p x false false s t = t

-- ---- a portion

abbrev Kept : Meaning → Portion → Type 0
Kept m w = Checked w.hand (written w.writes m)

kept_as : (m : Meaning) (r : Result (Unit {0}) FlashFault) (w : Write) (hand : Hand) (outcome : Outcome) → Checked hand (written w m) → Kept m (written_as r w hand outcome)
kept_as m (Ok u) w hand outcome c = c
kept_as m (Err f) w hand outcome c = tt

module _ (m : Meaning) where
  task_kept : (t : Task) → TaskChecked t m → Kept m (task_portion t m)
  task_kept (writing first bs k) c = kept_as m (program_answer m (first + k)) _ _ _ (hand_either _ (leb _ (k + 1)) none _ tt tt)
  task_kept (setting i bs) c = kept_as m (options_answer m) _ none done_ticket tt
  task_kept (checking first count value k register) c =
      cond_both (leb count (k + 128)) _ _ (Kept m) (λ t. tt)
      (λ f.
      let more : k + 128 < count = leb-false count (k + 128) f in
      let n : min 128 (count - k) ≡ 128 = omega arith in (
        ap (λ (j : ℕ). feeds register (bytes_of_words (take j (drop (first + k) m.words)))) n ∙ register_more m first k 128 register c.0,
        omega arith,
      ))
  task_kept (erasing first count k) c =
      cond_both (ltb k count) _ _ (Kept m)
      (λ t. kept_as m (erase_answer m (first + k)) _ _ _ (hand_either _ (leb count (k + 1)) none _ tt tt))
      (λ f. tt)
  task_kept protecting c = kept_as m (options_answer m) _ none done_ticket tt

  portion_kept : (hand : Hand) → Checked hand m → Kept m (portion hand m)
  portion_kept none c = tt
  portion_kept (unprotecting k) c =
      cond_both (ltb k m.pages) _ _ (Kept m) (λ t. kept_as m (erase_answer m k) _ (unprotecting (k + 1)) going tt) (λ f. kept_as m (options_answer m) _ none done_ticket tt)
  portion_kept (doing task) c = task_kept task c

work_checked : (p : Part) (c : Bool) → Checked p.hand p.flash
    → Checked (cond c p (after_portion p (next_portion p))).hand (cond c p (after_portion p (next_portion p))).flash
work_checked p true s = s
work_checked p false s = portion_kept p.flash p.hand s

reset_checked : (p : Part) (t : Bool) → Checked p.hand p.flash → Checked (cond t (restarted p) p).hand (cond t (restarted p) p).flash
reset_checked p true s = tt
reset_checked p false s = s

step_checked : (p : Part) (e : Event) → Checked p.hand p.flash → Checked (step p e).hand (step p e).flash
unfolding step
step_checked p (byte b room) s = byte_checked p (hears p b) (ltb room least_buffer) (busy p) s (heard_checked p.flash p.identity p.level p.wire b)
step_checked p (work room) s = work_checked p (ltb room least_buffer) s
step_checked p ask_fault s = s
step_checked p reset s = reset_checked p p.ticket s
step_checked p cut s = tt
step_checked p (cut_work room way) s = tt

run_checked : (p : Part) (es : List Event) → Checked p.hand p.flash → Checked (run p es).hand (run p es).flash
run_checked p [] s = s
run_checked p (e ∷ es) s = run_checked (step p e) es (step_checked p e s)

-- ---- the end of a check

compared : (a b : ℕ) → work_said (cond (eqb a b) done differs) ≡ bytes (code_answer (cond (eqb a b) Done WrongParameter))
compared a b = cond_both (eqb a b) done differs (λ (o : Outcome). work_said o ≡ bytes (code_answer (cond (eqb a b) Done WrongParameter)))
    (λ t. sym (ap (λ c. bytes (code_answer c)) (cond-true (eqb a b) Done WrongParameter t)))
    (λ f. sym (ap (λ c. bytes (code_answer c)) (cond-false (eqb a b) Done WrongParameter f)))

ends : (m : Meaning) (first count value k register : ℕ) → TaskChecked (checking first count value k register) m → count ≤ k + 128
    → work_said (check_portion m first count value k register).outcome
    ≡ bytes (code_answer (cond (eqb (crc (bytes_of_words (stretch m first count))) value) Done WrongParameter))
unfolding crc
ends m first count value k register c l =
    let n : min 128 (count - k) ≡ count - k = omega (arith, c.1) in
    let whole : k + (count - k) ≡ count = omega (arith, c.1) in
    let r : check_register m first count k register ≡ feeds 0xFFFF (bytes_of_words (stretch m first count)) =
    ap (λ (j : ℕ). feeds register (bytes_of_words (take j (drop (first + k) m.words)))) n
    ∙ register_more m first k (count - k) register c.0
    ∙ ap (λ (j : ℕ). feeds 0xFFFF (bytes_of_words (stretch m first j))) whole in
    ap (λ (w : Portion). work_said w.outcome) (cond-true (leb count (k + 128)) _ _ (le-leb count (k + 128) l))
    ∙ compared (bit_xor (check_register m first count k register) 0xFFFF) value
    ∙ ap (λ (x : ℕ). bytes (code_answer (cond (eqb (bit_xor x 0xFFFF) value) Done WrongParameter))) r

pub checks_answer_for_the_stretch : ChecksAnswerForTheStretch
checks_answer_for_the_stretch i m es first count value k register room hand enough l =
    let p = run (started i m) es in
    let c = subst (λ h. Checked h p.flash) hand (run_checked (started i m) es tt) in
    cond-false _ _ _ (le-ltb room least_buffer enough)
    ∙ ap (λ h. work_said (portion h p.flash).outcome) hand
    ∙ ends p.flash first count value k register c l
