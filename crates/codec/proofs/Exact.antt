-- The writer writes exactly the frames that pass.
use Rattle.std.proofs.Common.{◌≡◌, ℕ, ◌≤◌, Bool, true, false, List, length, Some, None, Ok, Err, Option, Result, sym, refl, ap, ◌∙◌, subst, ap₂, arith}
use Rattle.std.proofs.lemmas.Bool.Decides.{nat_tests}
use Rattle.commands.specs.declared.codes.Code.{Code}
use Rattle.commands.specs.declared.codes.Code.TheVariants.{WrongLength, NotAligned, WrongParameter}
use Rattle.commands.specs.declared.codes.Refusal.{Refusal}
use Rattle.commands.specs.declared.kinds.Kind.{Kind}
use Rattle.frame.specs.declared.layout.Flaw.{Flaw}
use Rattle.commands.specs.Fields.{Bytes}
use Rattle.commands.specs.Kinds.{kind_byte, kind_of}
use Rattle.frame.specs.Layout.{Held, total, framed, opened, length_field}
use Rattle.frame.specs.Places.{stop, stop_command, stop_frame}
use Rattle.commands.specs.Requests.{Request as Asked, Fitting, kind_for, request_data, request_of, wrong_length, misaligned, wrong_parameter}
use Rattle.frame.proofs.Frames.{opened_framed, framed_back, opened_opens}
use Rattle.frame.proofs.Judged.{passes}
use Rattle.frame.proofs.Puts.{length_framed}
use Rattle.frame.proofs.Readback.{read_back, write_back, kind_back, kind_of_byte, byte_of_kind, data_bytes, data_fitting, length_limit, bytes_part}
use Rattle.codec.specs.Writing.{frame_for, written, passing, WrittenFramesPass, PassingFramesAreWritten, FramesFitTheBuffer}

-- three places that let something through
record Through {X : Type 0} (a b c : Bool) (x y : X) : Type 0 where
  first : a ≡ false
  second : b ≡ false
  third : c ≡ false
  same : x ≡ y

through : {X : Type 0} (a b c : Bool) (i j k : Code) (x y : X)
    → ◌≡◌ {A = Result X Refusal} (stop a i (stop b j (stop c k (Ok x)))) (Ok y) → Through a b c x y
through true b c i j k x y e = let z : ◌≡◌ {A = ℕ} 0 1 = cc in absurd (omega arith)
through false true c i j k x y e = let z : ◌≡◌ {A = ℕ} 0 1 = cc in absurd (omega arith)
through false false true i j k x y e = let z : ◌≡◌ {A = ℕ} 0 1 = cc in absurd (omega arith)
through false false false i j k x y e = record { first = refl; second = refl; third = refl; same = cc }

-- ---- what is written passes

pub written_frames_pass : WrittenFramesPass
written_frames_pass q f fits e =
    let d = request_data q in
    let t = through (wrong_length (kind_for q) (length d)) (misaligned q) (wrong_parameter q) WrongLength NotAligned WrongParameter (frame_for q) f e in
    let few : length d ≤ 516 = length_limit (kind_for q) (length d) t.first in
    let bytes = data_bytes q fits in
    ap passing (sym t.same)
    ∙ passes (λ k. false) (λ r. false) _ _ (kind_for q) q
    (opened_framed 0x85 (kind_byte (kind_for q)) d bytes (omega arith) 516 few)
    (kind_of_byte (kind_for q)) (sym (read_back q fits)) refl t.first t.second t.third refl

-- ---- what passes is written

-- what passed: the frame opened, its tag is a command's, and no place stopped it
record Passed (r : Result Held Flaw) (q : Asked) : Type 0 where
  held : Held
  kind : Kind
  opening : r ≡ Ok held
  tagged : kind_of held.tag ≡ Some kind
  clear : Through (wrong_length kind (length held.bytes)) (misaligned (request_of kind held.bytes)) (wrong_parameter (request_of kind held.bytes)) (request_of kind held.bytes) q

told : (h : Held) (o : Option Kind) (q : Asked) → kind_of h.tag ≡ o → stop_command (λ k. false) (λ r. false) o h.bytes ≡ Ok q → Passed (Ok h) q
told h None q t e = let z : ◌≡◌ {A = ℕ} 0 1 = cc in absurd (omega arith)
told h (Some k) q t e = record {
  held = h;
  kind = k;
  opening = refl;
  tagged = t;
  clear = through _ _ _ WrongLength NotAligned WrongParameter (request_of k h.bytes) q e;
}

passed : (r : Result Held Flaw) (q : Asked) → stop_frame (λ k. false) (λ s. false) r ≡ Ok q → Passed r q
passed (Err flaw) q e = let z : ◌≡◌ {A = ℕ} 0 1 = cc in absurd (omega arith)
passed (Ok h) q e = told h (kind_of h.tag) q refl e

-- three places that do not apply let everything through
clear_way : {X : Type 0} (a b c : Bool) (i j k : Code) (x : X) → a ≡ false → b ≡ false → c ≡ false → stop a i (stop b j (stop c k (Ok x))) ≡ Ok x
clear_way a b c i j k x e f g = simp (e, f, g)

-- the same of the request that a data field is
written_of : (k : Kind) (d : List ℕ) → Bytes d → wrong_length k (length d) ≡ false → misaligned (request_of k d) ≡ false → wrong_parameter (request_of k d) ≡ false
    → written (request_of k d) ≡ Ok (framed 0x85 (kind_byte k) d)
written_of k d bytes w m p =
    let q = request_of k d in
    let kind = kind_back k d in
    let back = write_back k d bytes w in
    clear_way (wrong_length (kind_for q) (length (request_data q))) (misaligned q) (wrong_parameter q) WrongLength NotAligned WrongParameter (frame_for q)
    (ap₂ (λ x y. wrong_length x (length y)) kind back ∙ w) m p
    ∙ ap₂ (λ x y. Ok (framed 0x85 (kind_byte x) y)) kind back

pub passing_frames_are_written : PassingFramesAreWritten
passing_frames_are_written q f bytes e =
    let p = passed (opened 0x85 516 f) q e in
    let h = p.held in
    let k = p.kind in
    let o = opened_opens 0x85 516 f h p.opening in
    let db : Bytes h.bytes = subst (λ x. Bytes x.bytes) (sym o.holds) (bytes_part 4 (length_field f) f bytes) in
    let t = p.clear in (
      subst Fitting t.same (data_fitting k h.bytes db),
      subst (λ r. written r ≡ Ok f) t.same
          (written_of k h.bytes db t.first t.second t.third
          ∙ ap Ok (ap (λ (b : ℕ). framed 0x85 b h.bytes) (sym (byte_of_kind h.tag k p.tagged)) ∙ sym (framed_back 0x85 516 f h bytes p.opening))),
    )

-- ---- what is written fits

pub frames_fit_the_buffer : FramesFitTheBuffer
frames_fit_the_buffer q f e =
    let d = request_data q in
    let t = through (wrong_length (kind_for q) (length d)) (misaligned q) (wrong_parameter q) WrongLength NotAligned WrongParameter (frame_for q) f e in
    let few : length d ≤ 516 = length_limit (kind_for q) (length d) t.first in
    let size : length f ≡ total (length d) = ap length (sym t.same) ∙ length_framed 0x85 (kind_byte (kind_for q)) d in
    grind (arith, nat_tests)
