-- The laws over whole runs.
use Rattle.std.specs.Prelude.{◌≡◌, ℕ, ◌+◌, ◌*◌, ◌<◌, ◌≤◌, cond, ◌⊎◌, List, [], ◌∷◌, ◌++◌, take, drop, ◌==◌, slice_index}
use Rattle.checksum.specs.Crc.{crc}
use Rattle.commands.specs.declared.codes.Code.TheVariants.{Done, WrongParameter}
use Rattle.commands.specs.declared.kinds.Level.{Level}
use Rattle.commands.specs.declared.kinds.Level.TheVariants.{Open, Locked}
use Rattle.areas.specs.Words.{bytes_of_words}
use Rattle.flash.specs.Cuts.{Way, old, new, junk}
use Rattle.flash.specs.Meaning.{Meaning, Sound, blank}
use Rattle.part.specs.declared.identity.Identity.{Identity}
use Rattle.part.specs.Events.{Event, byte, work, ask_fault, reset, cut, cut_work, bytes, step, run, answers, Happening, unprotect_taken, page_erased, history, work_says, least_buffer}
use Rattle.part.specs.Parts.{Part, doing, checking, started, outward}
use Rattle.part.specs.Receiving.{code_answer}

-- ---- locked twins

-- the event but for the junk user words of a cut
abbrev pub without_junk_way : Way → Way
without_junk_way old = old
without_junk_way new = new
without_junk_way (junk users options falls) = junk [] options falls

abbrev pub without_junk : Event → Event
without_junk (byte b room) = byte b room
without_junk (work room) = work room
without_junk ask_fault = ask_fault
without_junk reset = reset
without_junk cut = cut
without_junk (cut_work room way) = cut_work room (without_junk_way way)

-- two events are one for two parts at a level: at level 0 they are equal, at level 1 the junk user words of a cut may differ
abbrev pub OneEvent : Level → Event → Event → Type 0
OneEvent Open e f = e ≡ f
OneEvent Locked e f = without_junk e ≡ without_junk f

-- two lists are one for two parts, the first of which is p: they are so event for event, at the level where each one comes
abbrev pub OneList : Part → List Event → List Event → Type 0
OneList p [] [] = Unit {0}
OneList p [] (f ∷ fs) = ⊥
OneList p (e ∷ es) [] = ⊥
OneList p (e ∷ es) (f ∷ fs) = OneEvent p.level e f × OneList (step p e) es fs

-- Two parts, each started on a flash of its own and after a list of its own, stand at level 1 and agree in all but their
-- user words. Then one list gets the same answers and fault reports from both, at every place.
abbrev pub LockedTwinsAnswerAlike : Type 0
LockedTwinsAnswerAlike =
    (i j : Identity) (m n : Meaning) → Sound m → Sound n
    → (own other : List Event)
    → (run (started i m) own).level ≡ Locked
    → outward (run (started i m) own) ≡ outward (run (started j n) other)
    → (es fs : List Event) → OneList (run (started i m) own) es fs
    → answers (run (started i m) own) es ≡ answers (run (started j n) other) fs

-- A part p that has started, and another that started on a flash of its own, stand at level 1, each after a list of its own,
-- and agree in all but their user words. Then one list gets the same answers and fault reports from both, at every place.
abbrev pub AnswersAsItsLockedTwins : Part → Type 0
AnswersAsItsLockedTwins p =
    (j : Identity) (n : Meaning) → Sound n
    → (own other : List Event)
    → (run p own).level ≡ Locked
    → outward (run p own) ≡ outward (run (started j n) other)
    → (es fs : List Event) → OneList (run p own) es fs
    → answers (run p own) es ≡ answers (run (started j n) other) fs

-- ---- it opens only erased

-- there is such a happening in the list
abbrev pub Among : Happening → List Happening → Type 0
Among h [] = ⊥
Among h (x ∷ xs) = (h ≡ x) ⊎ Among h xs

-- no unprotect frame was taken up
abbrev pub NoUnprotect : List Happening → Type 0
NoUnprotect [] = Unit {0}
NoUnprotect (unprotect_taken ∷ xs) = ⊥
NoUnprotect (page_erased k ∷ xs) = NoUnprotect xs

-- an unprotect frame was taken up, and since the last one each of the first so many pages was erased
pub record ErasedSinceUnprotect (pages : ℕ) (h : List Happening) : Type 0 where
  pub before : List Happening
  pub since : List Happening
  pub taken : h ≡ before ++ unprotect_taken ∷ since
  pub last : NoUnprotect since
  pub each : (k : ℕ) → k < pages → Among (page_erased k) since

-- every user word reads 0xFFFFFFFF
abbrev pub AllBlank : Meaning → Type 0
AllBlank m = (k : ℕ) → k < 128 * m.pages → slice_index m.words k ≡ blank

-- Wherever in a list after a start the level goes from 1 to 0, every user word then reads 0xFFFFFFFF, an unprotect frame was
-- taken up before, and each page was erased since the last one.
abbrev pub OpensOnlyErased : Type 0
OpensOnlyErased =
    (i : Identity) (m : Meaning) → Sound m → (es : List Event) (e : Event)
    → (run (started i m) es).level ≡ Locked
    → (step (run (started i m) es) e).level ≡ Open
    → AllBlank (step (run (started i m) es) e).flash
    × ErasedSinceUnprotect m.pages (history (started i m) (es ++ e ∷ []))

-- Wherever in a list behind the start of p the level goes from 1 to 0, every user word then reads 0xFFFFFFFF, an unprotect
-- frame was taken up before, and each page was erased since the last one.
abbrev pub OpensErased : Part → Type 0
OpensErased p =
    (es : List Event) (e : Event)
    → (run p es).level ≡ Locked
    → (step (run p es) e).level ≡ Open
    → AllBlank (step (run p es) e).flash
    × ErasedSinceUnprotect p.flash.pages (history p (es ++ e ∷ []))

-- ---- a check answers for the whole stretch

-- Wherever in a list after a start a work call ends a Memory CRC, it compares the checksum of all the words of the stretch,
-- as the flash holds them.
abbrev pub ChecksAnswerForTheStretch : Type 0
ChecksAnswerForTheStretch =
    (i : Identity) (m : Meaning) → (es : List Event) (first count value k register room : ℕ)
    → (run (started i m) es).hand ≡ doing (checking first count value k register)
    → least_buffer ≤ room → count ≤ k + 128
    → work_says (run (started i m) es) room
    ≡ bytes (code_answer (cond (crc (bytes_of_words (take count (drop first (run (started i m) es).flash.words))) == value) Done WrongParameter))

-- Wherever in a list behind the start of p a work call ends a Memory CRC, it compares the checksum of all the words of the
-- stretch, as the flash holds them.
abbrev pub ChecksWholeStretches : Part → Type 0
ChecksWholeStretches p =
    (es : List Event) (first count value k register room : ℕ)
    → (run p es).hand ≡ doing (checking first count value k register)
    → least_buffer ≤ room → count ≤ k + 128
    → work_says (run p es) room
    ≡ bytes (code_answer (cond (crc (bytes_of_words (take count (drop first (run p es).flash.words))) == value) Done WrongParameter))
