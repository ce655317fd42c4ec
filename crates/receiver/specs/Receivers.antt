-- What a receiver means, what comes of a byte, and what comes of a whole frame, in the words of the part.
use Rattle.std.specs.Prelude.{◌≡◌, ℕ, Bool, false, List, [], ◌∷◌}
use Rattle.areas.specs.Words.{bytes_of_words}
use Rattle.flash.specs.Meaning.{Meaning}
use Rattle.commands.specs.declared.codes.Code.TheVariants.{WrongLength}
use Rattle.commands.specs.declared.kinds.Level.{Level}
use Rattle.commands.specs.Kinds.{information_number}
use Rattle.frame.specs.Layout.{answer_head}
use Rattle.frame.specs.Places.{judged}
use Rattle.memory.specs.Portions.{words_at}
use Rattle.part.specs.declared.identity.Identity.{Identity}
use Rattle.part.specs.Parts.{Wire, Hand, none}
use Rattle.part.specs.Receiving.{Heard, heard, quiet, replied, waiting, answering, taking, answered, code_answer, data_answer, information}
use Rattle.receiver.specs.declared.receiver.Receiver.{Receiver}
use Rattle.receiver.specs.declared.state.Order.{Order}
use Rattle.receiver.specs.declared.state.Order.TheVariants.{Ignore, Refuse, Tell, Show, Take}
use Rattle.receiver.specs.declared.state.Reception.{Reception}
use Rattle.receiver.specs.declared.state.Reception.TheVariants.{Quiet, Greet, TooLong, Whole}
use Rattle.receiver.specs.declared.state.State.TheVariants.{Between}
use Rattle.receiver.specs.States.{wire_in, hand_in, hand_for, ticket_in, busy_in}
use Rattle.receiver.specs.Stores.{held}

-- the wire, the command in hand, and whether the ticket is out
abbrev pub wire_of : Receiver → Wire
wire_of r = wire_in r.state (held r.store)

abbrev pub hand_of : Receiver → Hand
hand_of r = hand_in r.state r.store.bytes

abbrev pub ticket_of : Receiver → Bool
ticket_of r = ticket_in r.state

abbrev pub busy_of : Receiver → Bool
busy_of r = busy_in r.state

-- what was heard, by what a byte led to and the receiver as it left it
abbrev pub heard_as : Identity → Level → Meaning → Receiver → Reception → Heard
heard_as i level m r Quiet = record { wire = wire_of r; takes = none; reply = quiet }
heard_as i level m r Greet = record { wire = wire_of r; takes = none; reply = replied (answer_head ∷ []) }
heard_as i level m r TooLong = record { wire = wire_of r; takes = none; reply = replied (code_answer WrongLength) }
heard_as i level m r Whole = answered i level m (judged level m.pages (held r.store))

-- a byte within a frame: it is heard as the definitions hear it, takes nothing up, and behind a whole frame the receiver is between frames
pub record HearsWithin (old : Receiver) (byte : ℕ) (new : Receiver) (reception : Reception) : Type 0 where
  pub hears : (i : Identity) (level : Level) (m : Meaning) → heard i level m (wire_of old) byte ≡ heard_as i level m new reception
  pub free : busy_of new ≡ false
  pub after : reception ≡ Whole → new.state ≡ Between

-- what is heard of a whole frame, by the order that it is
abbrev pub ordered_as : Identity → Level → Meaning → List ℕ → Order → Heard
ordered_as i level m f Ignore = waiting []
ordered_as i level m f (Refuse code) = answering (code_answer code)
ordered_as i level m f (Tell what) = answering (data_answer (information i level m.pages (information_number what)))
ordered_as i level m f (Show area first count) = answering (data_answer (bytes_of_words (words_at m area first count)))
ordered_as i level m f (Take busy) = taking (hand_for busy.task f)
