-- Option words that are replaced and that pass none of the four.
use Rattle.std.proofs.Common.{◌≡◌, ℕ, zero, suc, ◌+◌, ◌*◌, ◌≤◌, List, [], ◌∷◌, length, drop, min, max, true, refl, ap, subst, suc-add, zero-add, arith}
use Rattle.std.proofs.lemmas.List.{length-take}
use Rattle.std.proofs.lemmas.Bool.Decides.{nat_tests}
use Rattle.commands.specs.Requests.{stored_bytes}
use Rattle.memory.specs.Portions.{options_replaced}
use Rattle.part.specs.Working.{options_with, words_from}
use Rattle.receiver.specs.declared.task.Task.{Task}
use Rattle.receiver.specs.declared.task.Task.TheVariants.{Setting}
use Rattle.receiver.specs.States.{bounded}
use Rattle.loader.proofs.Lists.{length_words}

replaced_within : (i : ℕ) (ws xs : List ℕ) → i + length ws ≤ length xs → options_replaced i ws xs ≡ options_with i ws xs
replaced_within zero [] xs h = refl
replaced_within zero (w ∷ ws) [] h = absurd (omega arith)
replaced_within zero (w ∷ ws) (x ∷ xs) h = rw zero-add (ap (λ ys. w ∷ ys) (rw zero-add at (replaced_within zero ws xs (omega arith))))
replaced_within (suc n) ws [] h = absurd (omega arith)
replaced_within (suc n) ws (x ∷ xs) h = rw suc-add (ap (λ ys. x ∷ ys) (replaced_within n ws xs (omega arith)))

-- the words of a Write to the option words that keeps to them
pub set_within : (first words : ℕ) (store options : List ℕ) (task : Task) → task ≡ Setting first words → bounded task ≡ true → length options ≡ 4
    → options_replaced first (words_from (stored_bytes store words)) options ≡ options_with first (words_from (stored_bytes store words)) options
set_within first words store options task e b four =
    let fits = subst (λ t. bounded t ≡ true) e b in
    let count = length_words (stored_bytes store words) in
    let few = length-take (4 * min (max words 1) 128) (drop 8 store) in
    replaced_within first (words_from (stored_bytes store words)) options (grind (arith, nat_tests))
