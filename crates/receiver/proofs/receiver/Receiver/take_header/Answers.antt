use Rattle.std.proofs.Common.{refl, arith}
use Rattle.std.proofs.lemmas.Bool.Decides.{nat_tests}
use Rattle.receiver.specs.declared.state.State.TheVariants.{Header, Data}
use Rattle.receiver.proofs.Frames.{in_header, more, stays_short, stays_open, is_too_long, is_whole}
use Rattle.receiver.proofs.receiver.Receiver.take_header.Goals as goal

pub returns-then-count-lt4 : goal.returns-then-count-lt4
returns-then-count-lt4 c =
    let k = in_header c.args.self.now c.requires in
    let l = more _ _ c.args.byte c.push.ensures in
    stays_short c.args.self.now _ c.args.byte Header c.requires refl k.some c.push.ensures Header c.requires refl refl (omega arith)

pub returns-then-count-gt516 : goal.returns-then-count-gt516
returns-then-count-gt516 c =
    let k = in_header c.args.self.now c.requires in
    let l = more _ _ c.args.byte c.push.ensures in
    is_too_long c.args.self.now _ c.args.byte Header c.requires refl k.some c.push.ensures refl (omega arith) (omega arith)

pub returns-then-count-eq0 : goal.returns-then-count-eq0
returns-then-count-eq0 c =
    let k = in_header c.args.self.now c.requires in
    let l = more _ _ c.args.byte c.push.ensures in
    is_whole c.args.self.now _ c.args.byte Header c.requires refl k.some c.push.ensures refl (omega arith) (omega arith) (grind (arith, nat_tests))

pub returns : goal.returns
returns c =
    let k = in_header c.args.self.now c.requires in
    let l = more _ _ c.args.byte c.push.ensures in
    stays_open c.args.self.now _ c.args.byte Header c.requires refl k.some c.push.ensures Data refl refl refl (omega arith) (omega arith) (λ e. grind (arith, nat_tests))
