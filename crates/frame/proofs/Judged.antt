-- A frame that no place stops.
use Rattle.std.proofs.Common.{◌≡◌, ℕ, zero, suc, ◌-◌, Bool, false, List, [], ◌∷◌, length, take, drop, Some, Ok, Result, sym, refl, ap, ◌∙◌, arith}
use Rattle.std.proofs.lemmas.Bool.Decides.{nat_tests}
use Rattle.std.proofs.lemmas.List.{drop-drop}
use Rattle.std.proofs.lemmas.Slice.{between_is}
use Rattle.commands.specs.declared.kinds.Kind.{Kind}
use Rattle.frame.specs.declared.layout.Flaw.{Flaw}
use Rattle.commands.specs.Kinds.{kind_of}
use Rattle.frame.specs.Layout.{Held, opened, data_field}
use Rattle.frame.specs.Places.{stop_command, stop_frame, Standing, Placed}
use Rattle.frame.specs.declared.command.Command.{Command}
use Rattle.frame.specs.declared.command.Command.TheVariants.{Get, Read, Write, MemoryCrc, Erase, Protect, Unprotect}
use Rattle.commands.specs.Requests.{Request, request_of, wrong_length, misaligned, wrong_parameter}

pub passes : (level : Kind → Bool) (range : Request → Bool) (r : Result Held Flaw) (h : Held) (k : Kind) (q : Request)
    → r ≡ Ok h → kind_of h.tag ≡ Some k → q ≡ request_of k h.bytes
    → level k ≡ false → wrong_length k (length h.bytes) ≡ false → misaligned q ≡ false → wrong_parameter q ≡ false → range q ≡ false
    → stop_frame level range r ≡ Ok q
passes level range r h k q e f g a b m p o =
    ap (stop_frame level range) e ∙ ap (λ s. stop_command level range s h.bytes) f ∙ simp (← g, a, b, m, p, o)

-- a front of a list, by its own length
take_length : {X : Type 0} (n : ℕ) (xs : List X) → take (length (take n xs)) xs ≡ take n xs
take_length zero xs = refl
take_length (suc n) [] = refl
take_length (suc n) (x ∷ xs) = ap (λ ys. x ∷ ys) (take_length n xs)

-- what stands past the address in the data field stands at place 8 of the frame
past_address : (f bytes : List ℕ) (n : ℕ) → bytes ≡ drop 4 (take n (drop 4 f)) → bytes ≡ take (length bytes) (drop 8 f)
past_address f bytes n e =
    let s : bytes ≡ take (n - 4) (drop 8 f) = e ∙ sym (between_is (drop 4 f) 4 n) ∙ ap (take (n - 4)) (drop-drop 4 4 f) in
    s ∙ sym (ap (λ b. take (length b) (drop 8 f)) s ∙ take_length (n - 4) (drop 8 f))

pub placed_from : (f : List ℕ) (n : ℕ) (c : Command) → Standing (take n (drop 4 f)) c → Placed f c
placed_from f n (Get information) s = tt
placed_from f n (Read address count) s = tt
placed_from f n (Write at payload) s =
    (s.0, past_address f payload.bytes.now n s.1 ∙ ap (λ i. take (length payload.bytes.now) (drop i f)) (sym s.0))
placed_from f n (MemoryCrc address count value) s = tt
placed_from f n (Erase mode index count) s = tt
placed_from f n Protect s = tt
placed_from f n Unprotect s = tt

-- the bytes that an opened frame holds are its data field
pub opened_bytes : (head most : ℕ) (f : List ℕ) (h : Held) → opened head most f ≡ Ok h → h.bytes ≡ data_field f
opened_bytes head most f h e = grind (arith, nat_tests)
