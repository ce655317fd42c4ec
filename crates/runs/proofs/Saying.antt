-- What the answers of a loader say.
use Rattle.std.proofs.Common.{◌≡◌, ℕ, Bool, true, false, cond, ltb, List, length, drop, refl, ap, ◌∙◌, ap₂}
use Rattle.std.proofs.lemmas.List.{take_at}
use Rattle.frame.specs.Layout.{headed}
use Rattle.part.specs.Events.{small_buffer, silent, bytes, byte_said, byte_says, least_buffer, busy, hears}
use Rattle.part.specs.Parts.{Part}
use Rattle.part.specs.Receiving.{Reply, quiet, taken_up, replied}
use Rattle.loader.specs.declared.answers.Received.{Received}
use Rattle.loader.specs.Loaders.{received_as, said_bytes}
use Rattle.runs.specs.Lists.{byte_answer}

byte_tells : (c d : Bool) (r : Reply) (old : List ℕ)
    → byte_answer (received_as (cond c small_buffer (cond d silent (byte_said r)))) (headed (said_bytes (cond c small_buffer (cond d silent (byte_said r)))) old)
    ≡ cond c small_buffer (cond d silent (byte_said r))
byte_tells true d r old = refl
byte_tells false true r old = refl
byte_tells false false quiet old = refl
byte_tells false false taken_up old = refl
byte_tells false false (replied bs) old = ap bytes (take_at bs (drop (length bs) old) (length bs) refl)

pub byte_told : (p : Part) (b room : ℕ) (r : Received) (buffer old : List ℕ) → r ≡ received_as (byte_says p b room) → buffer ≡ headed (said_bytes (byte_says p b room)) old
    → byte_answer r buffer ≡ byte_says p b room
byte_told p b room r buffer old e f = ap₂ byte_answer e f ∙ byte_tells (ltb room least_buffer) (busy p) (hears p b).reply old
