-- Reading a line of a bench, word by word.
use Rattle.std.specs.Prelude.{ℕ, cond, ◌&&◌, List, [], ◌∷◌, length, Some, None, Option, nat_le}
use Rattle.text.specs.Digits.{byte_in, number_up_to}
use Rattle.text.specs.Grammar.{among, taken, ended, asked_by_verb}
use Rattle.text.specs.Lines.{all_by}
use Rattle.bench_script.specs.declared.form.Verb.{Verb}
use Rattle.bench_script.specs.declared.form.Verb.TheVariants.{In, Work, Reset, Fault}
use Rattle.bench_script.specs.Forms.{Asked, receive, work, reset, fault, verb_text}

-- all the words that a line can begin with
abbrev pub verbs : List Verb
verbs = In ∷ Work ∷ Reset ∷ Fault ∷ []

abbrev pub verb_in : List ℕ → Option Verb
verb_in = among verb_text verbs

-- bytes, if there are 1 to 522
abbrev pub received : Option (List ℕ) → Option Asked
received None = None
received (Some bs) = cond (nat_le 1 (length bs) && nat_le (length bs) 522) (Some (receive bs)) None

-- so many work calls and no more words, if it is at least one call
abbrev pub worked : ℕ → List (List ℕ) → Option Asked
worked n ws = cond (nat_le 1 n) (ended (work n) ws) None

-- the words behind the first
abbrev pub asked_by : Verb → List (List ℕ) → Option Asked
asked_by In = λ ws. received (all_by byte_in ws)
asked_by Work = taken (number_up_to 9999) worked
asked_by Reset = ended reset
asked_by Fault = ended fault

-- what a line asks for
abbrev pub asked_on : List ℕ → Option Asked
asked_on = asked_by_verb verb_in asked_by
