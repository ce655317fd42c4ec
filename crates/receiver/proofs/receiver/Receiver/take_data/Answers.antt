use Rattle.std.proofs.Common.{refl, arith}
use Rattle.std.proofs.lemmas.Bool.Decides.{nat_tests}
use Rattle.receiver.specs.declared.state.State.TheVariants.{Data, Crc}
use Rattle.receiver.specs.Stores.{held}
use Rattle.receiver.proofs.Frames.{in_data, to_data, to_crc, more, stays_open}
use Rattle.receiver.proofs.receiver.Receiver.take_data.Goals as goal

pub length_field-requires : goal.length_field-requires
length_field-requires c =
    let k = in_data c.args.self.now c.requires in
    let l = more _ _ c.args.byte c.push.ensures in
    omega arith

pub invariant_of-self : goal.invariant_of-self
invariant_of-self c =
    let k = in_data c.args.self.now c.requires in
    let l = more _ _ c.args.byte c.push.ensures in
    let d = l.field k.from in
    record { kept = to_crc _ (held c.push.new.self) refl (record { some = omega (arith, d); most = omega (arith, d); from = omega arith; to = omega arith }) }

pub invariant_of-self-else-count-length_field : goal.invariant_of-self-else-count-length_field
invariant_of-self-else-count-length_field c =
    let k = in_data c.args.self.now c.requires in
    let l = more _ _ c.args.byte c.push.ensures in
    let d = l.field k.from in
    record { kept = to_data c.args.self.now.state (held c.push.new.self) c.requires (record { some = omega (arith, d); most = omega (arith, d); from = omega arith; to = omega arith }) }

pub returns-then-count-length_field : goal.returns-then-count-length_field
returns-then-count-length_field c =
    let k = in_data c.args.self.now c.requires in
    let l = more _ _ c.args.byte c.push.ensures in
    let d = l.field k.from in
    stays_open c.args.self.now _ c.args.byte Data c.requires refl (omega arith) c.push.ensures Crc refl refl refl (omega arith) (omega (arith, d)) (λ e. grind (arith, nat_tests))

pub returns-else-count-length_field : goal.returns-else-count-length_field
returns-else-count-length_field c =
    let k = in_data c.args.self.now c.requires in
    let l = more _ _ c.args.byte c.push.ensures in
    let d = l.field k.from in
    stays_open c.args.self.now _ c.args.byte Data c.requires refl (omega arith) c.push.ensures Data c.requires refl refl (omega arith) (omega (arith, d)) (λ e. grind (arith, nat_tests))
