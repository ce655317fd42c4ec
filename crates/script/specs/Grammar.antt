-- Reading a line of the frame tool, word by word.
use Rattle.std.specs.Prelude.{ℕ, List, [], ◌∷◌, Option}
use Rattle.commands.specs.Requests.{get, read, write, memory_crc, erase, protect, unprotect}
use Rattle.script.specs.declared.form.Verb.{Verb}
use Rattle.script.specs.declared.form.Verb.TheVariants.{Get, Read, Write, Crc, Erase, Protect, Unprotect, Answer, Verdict}
use Rattle.text.specs.Digits.{byte_in, short_in, long_in, number_up_to}
use Rattle.text.specs.Grammar.{among, taken, ended, bytes_taken, most, asked_by_verb}
use Rattle.script.specs.Forms.{Asked, request, answer, verdict, verb_text}

-- all the words that a line can begin with
abbrev pub verbs : List Verb
verbs = Get ∷ Read ∷ Write ∷ Crc ∷ Erase ∷ Protect ∷ Unprotect ∷ Answer ∷ Verdict ∷ []

abbrev pub verb_in : List ℕ → Option Verb
verb_in = among verb_text verbs

-- the words behind the first
abbrev pub asked_by : Verb → List (List ℕ) → Option Asked
asked_by Get = taken (number_up_to 255) (λ n. ended (request (get n)))
asked_by Read = taken long_in (λ a. taken (number_up_to 65535) (λ n. ended (request (read a n))))
asked_by Write = taken long_in (λ a. bytes_taken (λ bs. request (write a bs)))
asked_by Crc = taken long_in (λ a. taken (number_up_to most) (λ n. taken short_in (λ v. ended (request (memory_crc a n v)))))
asked_by Erase = taken byte_in (λ m. taken (number_up_to most) (λ i. taken (number_up_to most) (λ n. ended (request (erase m i n)))))
asked_by Protect = ended (request protect)
asked_by Unprotect = ended (request unprotect)
asked_by Answer = bytes_taken answer
asked_by Verdict = taken (number_up_to most) (λ l. taken (number_up_to most) (λ p. bytes_taken (verdict l p)))

-- what a line asks for
abbrev pub asked_on : List ℕ → Option Asked
asked_on = asked_by_verb verb_in asked_by
