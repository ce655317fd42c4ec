use Rattle.std.proofs.Common.{◌≡◌, ℕ, ◌+◌, ◌/◌, ◌%◌, List, [], ◌∷◌, ◌++◌, length, get_or, sym, refl, ap, ◌∙◌, arith}
use Rattle.std.proofs.lemmas.List.{length-append, append-nil}
use Rattle.std.proofs.lemmas.Bool.Decides.{nat_tests}
use Rattle.frame.specs.Layout.{check_bytes, headed}
use Rattle.frame.proofs.Puts.{whole_frame}
use Rattle.frame.proofs.writing.put_all.Goals as goal

pub returns-then-count-eq0 : goal.returns-then-count-eq0
returns-then-count-eq0 c =
    let first = c.args.first.now in
    let second = c.args.second.now in
    let n : ℕ = length first + length second in
    let start : List ℕ = c.args.head ∷ c.args.tag ∷ n / 256 ∷ n % 256 ∷ [] in
    let old = c.args.buffer.now in
    let high : get_or c.to_be_bytes.result 0 0 ≡ n / 256 = ap (λ bs. get_or bs 0 0) c.to_be_bytes.ensures ∙ omega arith in
    let low : get_or c.to_be_bytes.result 1 0 ≡ n % 256 = ap (λ bs. get_or bs 1 0) c.to_be_bytes.ensures ∙ omega arith in
    let e1 = c.put-start.ensures.appended [] old refl refl ∙ (λ j. headed (c.args.head ∷ c.args.tag ∷ high j ∷ low j ∷ []) old) in
    let e2 = c.put-middle.ensures.appended start old (sym c.put-start.ensures.end) e1 in
    let e3 = c.put-end.ensures.appended (start ++ first) old (simp length-append (omega arith)) e2 in
    let none : [] ≡ check_bytes (first ++ second) = let l = length-append first second in grind (arith, nat_tests) in
    record {
      count = grind (arith, nat_tests);
      frame = e3 ∙ ap (λ f. headed f old) (sym (append-nil ((start ++ first) ++ second)) ∙ whole_frame c.args.head c.args.tag n first second [] refl (omega arith) none);
    }

pub returns : goal.returns
returns c =
    let first = c.args.first.now in
    let second = c.args.second.now in
    let n : ℕ = length first + length second in
    let start : List ℕ = c.args.head ∷ c.args.tag ∷ n / 256 ∷ n % 256 ∷ [] in
    let old = c.args.buffer.now in
    let high : get_or c.to_be_bytes.result 0 0 ≡ n / 256 = ap (λ bs. get_or bs 0 0) c.to_be_bytes.ensures ∙ omega arith in
    let low : get_or c.to_be_bytes.result 1 0 ≡ n % 256 = ap (λ bs. get_or bs 1 0) c.to_be_bytes.ensures ∙ omega arith in
    let e1 = c.put-start.ensures.appended [] old refl refl ∙ (λ j. headed (c.args.head ∷ c.args.tag ∷ high j ∷ low j ∷ []) old) in
    let e2 = c.put-middle.ensures.appended start old (sym c.put-start.ensures.end) e1 in
    let e3 = c.put-end.ensures.appended (start ++ first) old (simp length-append (omega arith)) e2 in
    let e4 = c.put.ensures.appended ((start ++ first) ++ second) old (simp length-append (omega arith)) e3 in
    let sum = c.to_be_bytes-2.result in
    let some : sum ≡ check_bytes (first ++ second) = let l = length-append first second in let k = c.check_of.ensures in let b = c.to_be_bytes-2.ensures in grind (arith, nat_tests) in
    record {
      count = grind (arith, nat_tests);
      frame = e4 ∙ ap (λ f. headed f old) (whole_frame c.args.head c.args.tag n first second sum refl (omega arith) some);
    }
