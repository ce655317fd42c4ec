-- One byte more of an open frame.
use Rattle.std.proofs.Common.{◌≡◌, ℕ, ◌+◌, ◌*◌, ◌<◌, ◌≤◌, true, false, List, [], ◌∷◌, ◌++◌, length, sym, ap, ◌∙◌, ap₂, arith}
use Rattle.std.proofs.lemmas.List.{length_push, get_or_append_left}
use Rattle.std.proofs.lemmas.Bool.Decides.{nat_tests}
use Rattle.flash.specs.Meaning.{Meaning}
use Rattle.commands.specs.declared.codes.Code.TheVariants.{WrongLength}
use Rattle.commands.specs.declared.kinds.Level.{Level}
use Rattle.frame.specs.Layout.{length_field, total}
use Rattle.frame.specs.Places.{judged}
use Rattle.part.specs.declared.identity.Identity.{Identity}
use Rattle.part.specs.Parts.{Wire, none}
use Rattle.part.specs.Receiving.{quiet, replied, heard, framing, waiting, answering, answered, code_answer}
use Rattle.receiver.specs.declared.receiver.Receiver.{Receiver}
use Rattle.receiver.specs.declared.state.Reception.TheVariants.{Quiet, TooLong, Whole}
use Rattle.receiver.specs.declared.state.State.{State}
use Rattle.receiver.specs.declared.state.State.TheVariants.{Between, Header, Data, Crc}
use Rattle.receiver.specs.Receivers.{wire_of, HearsWithin}
use Rattle.receiver.specs.Stores.{held}
use Rattle.receiver.specs.States.{comes_to, wire_in, busy_in}

-- ---- what a state says of the open frame, and how it is shown

pub record InHeader (f : List ℕ) : Type 0 where
  pub some : 0 < length f
  pub short : length f < 4

pub record InData (f : List ℕ) : Type 0 where
  pub some : 0 < length_field f
  pub most : length_field f ≤ 516
  pub from : 4 ≤ length f
  pub to : length f < 4 + length_field f

pub record InCrc (f : List ℕ) : Type 0 where
  pub some : 0 < length_field f
  pub most : length_field f ≤ 516
  pub from : 4 + length_field f ≤ length f
  pub to : length f < 6 + length_field f

moved : (s t : State) (f : List ℕ) → s ≡ t → comes_to s f ≡ true → comes_to t f ≡ true
moved s t f e h = sym (ap (λ (x : State). comes_to x f) e) ∙ h

header_of : (f : List ℕ) → comes_to Header f ≡ true → InHeader f
header_of f h = record { some = grind (arith, nat_tests); short = grind (arith, nat_tests) }

data_of : (f : List ℕ) → comes_to Data f ≡ true → InData f
data_of f h = record { some = grind (arith, nat_tests); most = grind (arith, nat_tests); from = grind (arith, nat_tests); to = grind (arith, nat_tests) }

crc_of : (f : List ℕ) → comes_to Crc f ≡ true → InCrc f
crc_of f h = record { some = grind (arith, nat_tests); most = grind (arith, nat_tests); from = grind (arith, nat_tests); to = grind (arith, nat_tests) }

pub in_header : (r : Receiver) → r.state ≡ Header → InHeader (held r.store)
in_header r e = header_of (held r.store) (moved r.state Header (held r.store) e r.kept)

pub in_data : (r : Receiver) → r.state ≡ Data → InData (held r.store)
in_data r e = data_of (held r.store) (moved r.state Data (held r.store) e r.kept)

pub in_crc : (r : Receiver) → r.state ≡ Crc → InCrc (held r.store)
in_crc r e = crc_of (held r.store) (moved r.state Crc (held r.store) e r.kept)

pub to_data : (s : State) (f : List ℕ) → s ≡ Data → InData f → comes_to s f ≡ true
to_data s f e x =
    let h : comes_to Data f ≡ true = grind (arith, nat_tests) in moved Data s f (sym e) h

pub to_crc : (s : State) (f : List ℕ) → s ≡ Crc → InCrc f → comes_to s f ≡ true
to_crc s f e x =
    let h : comes_to Crc f ≡ true = grind (arith, nat_tests) in moved Crc s f (sym e) h

-- ---- one byte more

-- one byte longer; and where the length field is there, it is the same
pub record More (f g : List ℕ) : Type 0 where
  pub longer : length g ≡ length f + 1
  pub field : 4 ≤ length f → length_field g ≡ length_field f

pub more : (f g : List ℕ) (b : ℕ) → g ≡ f ++ b ∷ [] → More f g
more f g b e = record {
  longer = ap length e ∙ length_push f b;
  field = λ h.
      ap length_field e
      ∙ ap₂ (λ (x y : ℕ). x * 256 + y) (get_or_append_left f (b ∷ []) 0 2 (omega arith)) (get_or_append_left f (b ∷ []) 0 3 (omega arith));
}

-- ---- what is heard

abbrev opened_wire : List ℕ → Wire
opened_wire f = record { connected = true; frame = f }

heard_inside : (i : Identity) (level : Level) (m : Meaning) (f g : List ℕ) (b : ℕ) → 0 < length f → g ≡ f ++ b ∷ []
    → heard i level m (opened_wire f) b ≡ framing i level m g
heard_inside i level m [] g b h e = absurd (omega arith)
heard_inside i level m (x ∷ f) g b h e = ap (framing i level m) (sym e)

module _ (i : Identity) (level : Level) (m : Meaning) (g : List ℕ) where
  framing_short : length g < 4 → framing i level m g ≡ waiting g
  unfolding framing
  framing_short h = grind (arith, nat_tests)

  framing_long : 4 ≤ length g → 516 < length_field g → framing i level m g ≡ answering (code_answer WrongLength)
  unfolding framing
  framing_long h l = grind (arith, nat_tests)

  framing_open : 4 ≤ length g → length_field g ≤ 516 → (length g ≡ total (length_field g) → ⊥) → framing i level m g ≡ waiting g
  unfolding framing
  framing_open h l n = grind (arith, nat_tests)

  framing_whole : 4 ≤ length g → length_field g ≤ 516 → length g ≡ total (length_field g) → framing i level m g ≡ answered i level m (judged level m.pages g)
  unfolding framing
  framing_whole h l n = grind (arith, nat_tests)

-- a receiver in a state inside a frame takes one byte more
module _ (old new : Receiver) (b : ℕ) (s : State) (before : old.state ≡ s) (opens : wire_in s (held old.store) ≡ opened_wire (held old.store))
    (some : 0 < length (held old.store)) (e : held new.store ≡ held old.store ++ b ∷ []) where
  inside : (i : Identity) (level : Level) (m : Meaning) → heard i level m (wire_of old) b ≡ framing i level m (held new.store)
  inside i level m =
      ap (λ w. heard i level m w b) (ap (λ (x : State). wire_in x (held old.store)) before ∙ opens)
      ∙ heard_inside i level m (held old.store) (held new.store) b some e

  -- and stays inside the frame
  module _ (t : State) (after : new.state ≡ t) (shown : wire_in t (held new.store) ≡ opened_wire (held new.store)) (free : busy_in t ≡ false) where
    stays : ((i : Identity) (level : Level) (m : Meaning) → framing i level m (held new.store) ≡ waiting (held new.store)) → HearsWithin old b new Quiet
    stays h = record {
      hears = λ i level m.
          inside i level m ∙ h i level m
          ∙ ap (λ (w : Wire). record { wire = w; takes = none; reply = quiet }) (sym (ap (λ (x : State). wire_in x (held new.store)) after ∙ shown));
      free = ap busy_in after ∙ free;
      after = λ q. let z : ◌≡◌ {A = ℕ} 0 1 = cc in absurd (omega arith);
    }

    pub stays_short : length (held new.store) < 4 → HearsWithin old b new Quiet
    stays_short h = stays (λ i level m. framing_short i level m (held new.store) h)

    pub stays_open : 4 ≤ length (held new.store) → length_field (held new.store) ≤ 516
        → (length (held new.store) ≡ total (length_field (held new.store)) → ⊥) → HearsWithin old b new Quiet
    stays_open h l n = stays (λ i level m. framing_open i level m (held new.store) h l n)

  -- and is between frames again
  module _ (after : new.state ≡ Between) where
    pub is_too_long : 4 ≤ length (held new.store) → 516 < length_field (held new.store) → HearsWithin old b new TooLong
    is_too_long h l = record {
      hears = λ i level m.
          inside i level m ∙ framing_long i level m (held new.store) h l
          ∙ ap (λ (x : State). record { wire = wire_in x (held new.store); takes = none; reply = replied (code_answer WrongLength) }) (sym after);
      free = ap busy_in after;
      after = λ q. after;
    }

    pub is_whole : 4 ≤ length (held new.store) → length_field (held new.store) ≤ 516
        → length (held new.store) ≡ total (length_field (held new.store)) → HearsWithin old b new Whole
    is_whole h l n = record {
      hears = λ i level m. inside i level m ∙ framing_whole i level m (held new.store) h l n;
      free = ap busy_in after;
      after = λ q. after;
    }
