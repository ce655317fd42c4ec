-- The law of locked twins, for two parts that came from a start.
use Rattle.std.proofs.Common.{◌≡◌, sym, ap, ◌∙◌, subst}
use Rattle.commands.specs.declared.kinds.Level.TheVariants.{Locked}
use Rattle.flash.specs.Meaning.{without_words}
use Rattle.part.specs.Events.{answers}
use Rattle.part.specs.Laws.{OneList}
use Rattle.part.specs.Parts.{Part, outward}
use Rattle.part.proofs.Twins.{locked_twins_answer_alike}
use Rattle.twin_parts.specs.Twins.{LockedTwins, AlikeForGood}

-- two parts at level 1 that agree in each field, in the flash but for its user words, are locked twins
pub twins_by_fields : (p q : Part) → p.level ≡ Locked → q.level ≡ Locked → p.identity ≡ q.identity → p.wire ≡ q.wire → p.hand ≡ q.hand
    → p.ticket ≡ q.ticket → p.last ≡ q.last → without_words p.flash ≡ without_words q.flash → LockedTwins p q
twins_by_fields p q left right identity wire hand ticket last flash = record {
  left = left;
  right = right;
  agree = λ j. record {
    identity = identity j;
    wire = wire j;
    hand = hand j;
    ticket = ticket j;
    level = (left ∙ sym right) j;
    last = last j;
    flash = flash j;
  };
}

pub alike_for_good : (p q : Part) → LockedTwins p q → AlikeForGood p q
alike_for_good p q t i j m n s r own other e f es fs one =
    ap (λ (x : Part). answers x es) e
    ∙ locked_twins_answer_alike i j m n s r own other (sym (ap (λ (x : Part). x.level) e) ∙ t.left)
    (sym (ap outward e) ∙ t.agree ∙ ap outward f) es fs (subst (λ (x : Part). OneList x es fs) e one)
    ∙ sym (ap (λ (x : Part). answers x fs) f)
