-- What a line asks a bench for is read back from its text, and is all that is read.
use Rattle.std.proofs.Common.{◌≡◌, ℕ, ◌≤◌, ◌&&◌, leb, List, [], ◌∷◌, length, Some, None, Option, refl, ap, ◌∙◌, subst, ap₂, arith}
use Rattle.std.proofs.lemmas.Bool.{cond_both, cond-true, and_parts, and_from, leb-true, le-leb}
use Rattle.std.specs.List.{AllByRecursion}
use Rattle.text.proofs.Asking.{among_only, bytes_back, bytes_only, given_back, taken_only, ended_only}
use Rattle.text.proofs.Numbers.{up_to_back, up_to_only}
use Rattle.text.proofs.Plain.{plain_decimal, plain_bytes, plain_from}
use Rattle.text.specs.Digits.{byte_in, number_up_to}
use Rattle.text.specs.Grammar.{ended, Spelling}
use Rattle.text.specs.Lines.{Plain, all_by}
use Rattle.bench_script.specs.declared.form.Verb.{Verb}
use Rattle.bench_script.specs.declared.form.Verb.TheVariants.{In, Work, Reset, Fault}
use Rattle.bench_script.specs.Forms.{Asked, receive, work, reset, fault, verb_text, verb_for, words_for, Fits}
use Rattle.bench_script.specs.Grammar.{verbs, verb_in, received, worked, asked_by}

-- ---- no word has a blank
plain_verb : (v : Verb) → Plain (verb_text v)
plain_verb In = plain_from (verb_text In) refl
plain_verb Work = plain_from (verb_text Work) refl
plain_verb Reset = plain_from (verb_text Reset) refl
plain_verb Fault = plain_from (verb_text Fault) refl

plain_words : (a : Asked) → Fits a → AllByRecursion Plain (words_for a)
plain_words (receive bs) h = plain_bytes bs
plain_words (work n) h = (plain_decimal n (omega arith), tt)
plain_words reset h = tt
plain_words fault h = tt

-- ---- the first word
verb_back : (v : Verb) → verb_in (verb_text v) ≡ Some v
verb_back In = refl
verb_back Work = refl
verb_back Reset = refl
verb_back Fault = refl

-- ---- the words behind it, forwards
asked_back : (a : Asked) → Fits a → asked_by (verb_for a) (words_for a) ≡ Some a
asked_back (receive bs) h =
    ap received (bytes_back bs h.2) ∙ cond-true _ _ _ (and_from _ _ (le-leb 1 (length bs) h.0) (le-leb (length bs) 522 h.1))
asked_back (work n) h = given_back _ _ (up_to_back 9999 n h.1 (omega arith)) ∙ cond-true _ _ _ (le-leb 1 n h.0)
asked_back reset h = refl
asked_back fault h = refl

-- ---- and backwards
abbrev Spells : Verb → List (List ℕ) → Asked → Type 0
Spells v ws a = (verb_for a ≡ v) × (words_for a ≡ ws) × Fits a

received_only : (o : Option (List ℕ)) (a : Asked) → received o ≡ Some a
    → (bs : List ℕ) × (o ≡ Some bs) × (receive bs ≡ a) × (1 ≤ length bs) × (length bs ≤ 522)
received_only None a e = let z : ◌≡◌ {A = ℕ} 0 1 = cc in absurd (omega arith)
received_only (Some bs) a e =
    cond_both (leb 1 (length bs) && leb (length bs) 522) (Some (receive bs)) None
    (λ o. o ≡ Some a → (cs : List ℕ) × (Some bs ≡ Some cs) × (receive cs ≡ a) × (1 ≤ length cs) × (length cs ≤ 522))
    (λ t k.
    let p = and_parts (leb 1 (length bs)) _ t in
    (bs, refl, cc, leb-true 1 (length bs) p.0, leb-true (length bs) 522 p.1))
    (λ t k. let z : ◌≡◌ {A = ℕ} 0 1 = cc in absurd (omega arith))
    e

worked_only : (n : ℕ) (ws : List (List ℕ)) (a : Asked) → worked n ws ≡ Some a → ([] ≡ ws) × (work n ≡ a) × (1 ≤ n)
worked_only n ws a e =
    cond_both (leb 1 n) (ended (work n) ws) None (λ o. o ≡ Some a → ([] ≡ ws) × (work n ≡ a) × (1 ≤ n))
    (λ t k. let q = ended_only (work n) ws a k in (q.0, q.1, leb-true 1 n t))
    (λ t k. let z : ◌≡◌ {A = ℕ} 0 1 = cc in absurd (omega arith))
    e

asked_only : (v : Verb) (ws : List (List ℕ)) (a : Asked) → asked_by v ws ≡ Some a → Spells v ws a
asked_only In ws a e =
    let p = received_only (all_by byte_in ws) a e in
    let q = bytes_only ws p.0 p.1 in
    subst (Spells In ws) p.2 (refl, q.0, (p.3, p.4, q.1))
asked_only Work ws a e =
    let p = taken_only (number_up_to 9999) worked ws a e in
    let n = up_to_only 9999 p.0 p.2 p.4 in
    let q = worked_only p.2 p.1 a p.5 in
    subst (Spells Work ws) q.1 (refl, ap₂ (λ w vs. w ∷ vs) n.0 q.0 ∙ p.3, (q.2, n.1))
asked_only Reset ws a e = let q = ended_only reset ws a e in subst (Spells Reset ws) q.1 (refl, q.0, tt)
asked_only Fault ws a e = let q = ended_only fault ws a e in subst (Spells Fault ws) q.1 (refl, q.0, tt)

-- ---- a whole line
pub spelling : Spelling verb_text verb_in asked_by verb_for words_for Fits
spelling = record {
  plain_verb = plain_verb;
  plain_words = plain_words;
  verb_back = verb_back;
  verb_only = among_only verb_text verbs;
  asked_back = asked_back;
  asked_only = asked_only;
}
