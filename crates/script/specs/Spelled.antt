-- What a line asks for is read back from its text, and is all that is read.
use Rattle.std.proofs.Common.{◌≡◌, ℕ, List, ◌∷◌, Some, refl, ◌∙◌, subst, ap₂, arith}
use Rattle.std.specs.List.{AllByRecursion}
use Rattle.commands.specs.Requests.{get, read, write, memory_crc, erase, protect, unprotect}
use Rattle.text.proofs.Asking.{among_only, given_back, bytes_taken_back, taken_only, ended_only, bytes_taken_only}
use Rattle.text.proofs.Numbers.{up_to_back, up_to_only}
use Rattle.text.proofs.Plain.{plain_byte, plain_short, plain_long, plain_decimal, plain_bytes, plain_from}
use Rattle.text.proofs.Spelled.{byte_back, byte_only, short_back, short_only, long_back, long_only}
use Rattle.text.specs.Digits.{byte_in, short_in, long_in, number_up_to}
use Rattle.text.specs.Grammar.{taken, ended, bytes_taken, most, Spelling}
use Rattle.text.specs.Lines.{Plain}
use Rattle.script.specs.declared.form.Verb.{Verb}
use Rattle.script.specs.declared.form.Verb.TheVariants.{Get, Read, Write, Crc, Erase, Protect, Unprotect, Answer, Verdict}
use Rattle.script.specs.Forms.{Asked, request, answer, verdict, verb_text, verb_for, words_for, Fits}
use Rattle.script.specs.Grammar.{verbs, verb_in, asked_by}

-- ---- no word has a blank
plain_verb : (v : Verb) → Plain (verb_text v)
plain_verb Get = plain_from (verb_text Get) refl
plain_verb Read = plain_from (verb_text Read) refl
plain_verb Write = plain_from (verb_text Write) refl
plain_verb Crc = plain_from (verb_text Crc) refl
plain_verb Erase = plain_from (verb_text Erase) refl
plain_verb Protect = plain_from (verb_text Protect) refl
plain_verb Unprotect = plain_from (verb_text Unprotect) refl
plain_verb Answer = plain_from (verb_text Answer) refl
plain_verb Verdict = plain_from (verb_text Verdict) refl

plain_words : (a : Asked) → Fits a → AllByRecursion Plain (words_for a)
plain_words (request (get n)) h = (plain_decimal n (omega arith), tt)
plain_words (request (read a n)) h = (plain_long a, (plain_decimal n (omega arith), tt))
plain_words (request (write a bs)) h = (plain_long a, plain_bytes bs)
plain_words (request (memory_crc a n v)) h = (plain_long a, (plain_decimal n h.1, (plain_short v, tt)))
plain_words (request (erase m i n)) h = (plain_byte m, (plain_decimal i h.1, (plain_decimal n h.2, tt)))
plain_words (request protect) h = tt
plain_words (request unprotect) h = tt
plain_words (answer bs) h = plain_bytes bs
plain_words (verdict l p bs) h = (plain_decimal l h.0, (plain_decimal p h.1, plain_bytes bs))

-- ---- the first word
verb_back : (v : Verb) → verb_in (verb_text v) ≡ Some v
verb_back Get = refl
verb_back Read = refl
verb_back Write = refl
verb_back Crc = refl
verb_back Erase = refl
verb_back Protect = refl
verb_back Unprotect = refl
verb_back Answer = refl
verb_back Verdict = refl

-- ---- the words behind it, forwards
asked_back : (a : Asked) → Fits a → asked_by (verb_for a) (words_for a) ≡ Some a
asked_back (request (get n)) h = given_back _ _ (up_to_back 255 n (omega arith) (omega arith))
asked_back (request (read a n)) h = given_back _ _ (long_back a h.0) ∙ given_back _ _ (up_to_back 65535 n (omega arith) (omega arith))
asked_back (request (write a bs)) h = given_back _ _ (long_back a h.0) ∙ bytes_taken_back (λ bs. request (write a bs)) bs h.1
asked_back (request (memory_crc a n v)) h =
    given_back _ _ (long_back a h.0) ∙ given_back _ _ (up_to_back most n (omega arith) h.1) ∙ given_back _ _ (short_back v h.2)
asked_back (request (erase m i n)) h =
    given_back _ _ (byte_back m h.0) ∙ given_back _ _ (up_to_back most i (omega arith) h.1) ∙ given_back _ _ (up_to_back most n (omega arith) h.2)
asked_back (request protect) h = refl
asked_back (request unprotect) h = refl
asked_back (answer bs) h = bytes_taken_back answer bs h
asked_back (verdict l p bs) h =
    given_back _ _ (up_to_back most l (omega arith) h.0) ∙ given_back _ _ (up_to_back most p (omega arith) h.1) ∙ bytes_taken_back (verdict l p) bs h.2

-- ---- and backwards
abbrev Spells : Verb → List (List ℕ) → Asked → Type 0
Spells v ws a = (verb_for a ≡ v) × (words_for a ≡ ws) × Fits a

asked_only : (v : Verb) (ws : List (List ℕ)) (a : Asked) → asked_by v ws ≡ Some a → Spells v ws a
asked_only Get ws a e =
    let p = taken_only (number_up_to 255) (λ n. ended (request (get n))) ws a e in
    let n = up_to_only 255 p.0 p.2 p.4 in
    let q = ended_only (request (get p.2)) p.1 a p.5 in
    subst (Spells Get ws) q.1 (refl, ap₂ (λ w vs. w ∷ vs) n.0 q.0 ∙ p.3, omega arith)
asked_only Read ws a e =
    let p = taken_only long_in (λ a. taken (number_up_to 65535) (λ n. ended (request (read a n)))) ws a e in
    let b = long_only p.0 p.2 p.4 in
    let q = taken_only (number_up_to 65535) (λ n. ended (request (read p.2 n))) p.1 a p.5 in
    let n = up_to_only 65535 q.0 q.2 q.4 in
    let r = ended_only (request (read p.2 q.2)) q.1 a q.5 in
    subst (Spells Read ws) r.1 (refl, ap₂ (λ w vs. w ∷ vs) b.0 (ap₂ (λ w vs. w ∷ vs) n.0 r.0 ∙ q.3) ∙ p.3, (b.1, omega arith))
asked_only Write ws a e =
    let p = taken_only long_in (λ a. bytes_taken (λ bs. request (write a bs))) ws a e in
    let b = long_only p.0 p.2 p.4 in
    let q = bytes_taken_only (λ bs. request (write p.2 bs)) p.1 a p.5 in
    subst (Spells Write ws) q.1 (refl, ap₂ (λ w vs. w ∷ vs) b.0 q.2 ∙ p.3, (b.1, q.3))
asked_only Crc ws a e =
    let p = taken_only long_in (λ a. taken (number_up_to most) (λ n. taken short_in (λ v. ended (request (memory_crc a n v))))) ws a e in
    let b = long_only p.0 p.2 p.4 in
    let q = taken_only (number_up_to most) (λ n. taken short_in (λ v. ended (request (memory_crc p.2 n v)))) p.1 a p.5 in
    let n = up_to_only most q.0 q.2 q.4 in
    let r = taken_only short_in (λ v. ended (request (memory_crc p.2 q.2 v))) q.1 a q.5 in
    let v = short_only r.0 r.2 r.4 in
    let s = ended_only (request (memory_crc p.2 q.2 r.2)) r.1 a r.5 in
    subst (Spells Crc ws) s.1 (
      refl,
      ap₂ (λ w vs. w ∷ vs) b.0 (ap₂ (λ w vs. w ∷ vs) n.0 (ap₂ (λ w vs. w ∷ vs) v.0 s.0 ∙ r.3) ∙ q.3) ∙ p.3,
      (b.1, omega arith, v.1),
    )
asked_only Erase ws a e =
    let p = taken_only byte_in (λ m. taken (number_up_to most) (λ i. taken (number_up_to most) (λ n. ended (request (erase m i n))))) ws a e in
    let b = byte_only p.0 p.2 p.4 in
    let q = taken_only (number_up_to most) (λ i. taken (number_up_to most) (λ n. ended (request (erase p.2 i n)))) p.1 a p.5 in
    let i = up_to_only most q.0 q.2 q.4 in
    let r = taken_only (number_up_to most) (λ n. ended (request (erase p.2 q.2 n))) q.1 a q.5 in
    let n = up_to_only most r.0 r.2 r.4 in
    let s = ended_only (request (erase p.2 q.2 r.2)) r.1 a r.5 in
    subst (Spells Erase ws) s.1 (
      refl,
      ap₂ (λ w vs. w ∷ vs) b.0 (ap₂ (λ w vs. w ∷ vs) i.0 (ap₂ (λ w vs. w ∷ vs) n.0 s.0 ∙ r.3) ∙ q.3) ∙ p.3,
      (b.1, omega arith, omega arith),
    )
asked_only Protect ws a e = let q = ended_only (request protect) ws a e in subst (Spells Protect ws) q.1 (refl, q.0, tt)
asked_only Unprotect ws a e = let q = ended_only (request unprotect) ws a e in subst (Spells Unprotect ws) q.1 (refl, q.0, tt)
asked_only Answer ws a e =
    let q = bytes_taken_only answer ws a e in
    subst (Spells Answer ws) q.1 (refl, q.2, q.3)
asked_only Verdict ws a e =
    let p = taken_only (number_up_to most) (λ l. taken (number_up_to most) (λ p. bytes_taken (verdict l p))) ws a e in
    let l = up_to_only most p.0 p.2 p.4 in
    let q = taken_only (number_up_to most) (λ n. bytes_taken (verdict p.2 n)) p.1 a p.5 in
    let n = up_to_only most q.0 q.2 q.4 in
    let r = bytes_taken_only (verdict p.2 q.2) q.1 a q.5 in
    subst (Spells Verdict ws) r.1
    (refl, ap₂ (λ w vs. w ∷ vs) l.0 (ap₂ (λ w vs. w ∷ vs) n.0 r.2 ∙ q.3) ∙ p.3, (omega arith, omega arith, r.3))

-- ---- a whole line
pub spelling : Spelling verb_text verb_in asked_by verb_for words_for Fits
spelling = record {
  plain_verb = plain_verb;
  plain_words = plain_words;
  verb_back = verb_back;
  verb_only = among_only verb_text verbs;
  asked_back = asked_back;
  asked_only = asked_only;
}
