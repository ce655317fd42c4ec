use Rattle.std.proofs.Common.{◌≡◌, ℕ, Bool, true, false, length, refl, ap, ◌∙◌, arith, rules}
use Rattle.frame.specs.Layout.{headed}
use Rattle.receiver.specs.Receivers.{busy_of}
use Rattle.loader.specs.Loaders.{received_as, said_bytes}
use Rattle.loader.proofs.Obeying.{hears_whole}
use Rattle.loader.proofs.loader.Loader.receive.Goals as goal

-- a receiver that gives a whole frame was not busy
not_busy : (b : Bool) → (b ≡ true → ⊥) → b ≡ false
not_busy true h = absurd (h refl)
not_busy false h = refl

pub returns-in-Whole : goal.returns-in-Whole
returns-in-Whole g c =
    let m = g.F.Flash.meaning in
    let l = c.args.self.now in
    let r = c.take.new.self in
    let t = c.in-Whole.ensures in
    let free : busy_of l.receiver ≡ false =
    not_busy (busy_of l.receiver) (λ e. let q = (t.busy_drops_the_byte e).0 in let z : ◌≡◌ {A = ℕ} 0 1 = cc in omega arith) in
    let h = hears_whole m l r c.args.byte (length c.args.buffer.now) c.if-buffer-lt518.false free (t.takes_nothing_up ∙ free) (t.hears_the_byte free l.identity l.level (m l.flash)) in
    record {
      answers_as_defined = c.obey.ensures.answers ∙ ap received_as h.0;
      leaves_the_part_as_defined = c.obey.ensures.leaves ∙ h.1;
      puts_the_answer_and_no_more = let puts = c.obey.ensures.puts.head ∙ ap (λ s. headed (said_bytes s) c.args.buffer.now) h.0 in let loan = c.obey.ensures.puts.loan in search rules;
    }
