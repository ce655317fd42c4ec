-- What a line asks a bench for, as numbers and bytes; and its text.
use Rattle.std.specs.Prelude.{ℕ, ◌≤◌, List, [], ◌∷◌, map, length, vec_items, codes, decimal}
use Rattle.commands.specs.Fields.{Bytes}
use Rattle.text.specs.Digits.{hex_byte}
use Rattle.text.specs.Lines.{line_text}
use Rattle.bench_script.specs.declared.form.Form.{Form}
use Rattle.bench_script.specs.declared.form.Form.TheVariants as forms
use Rattle.bench_script.specs.declared.form.Verb.{Verb}
use Rattle.bench_script.specs.declared.form.Verb.TheVariants as verbs

pub data Asked : Type 0 where
  -- the part receives these bytes, one after the other
  receive : List ℕ → Asked
  -- so many work calls
  work : ℕ → Asked
  -- a reset by the ticket
  reset : Asked
  -- the last fault report
  fault : Asked

-- what a form asks for, without its vector
abbrev pub meant : Form → Asked
meant (forms.In bytes) = receive (vec_items bytes)
meant (forms.Work calls) = work calls
meant forms.Reset = reset
meant forms.Fault = fault

-- the word that a line begins with
abbrev pub verb_text : Verb → List ℕ
verb_text verbs.In = codes "in"
verb_text verbs.Work = codes "work"
verb_text verbs.Reset = codes "reset"
verb_text verbs.Fault = codes "fault"

abbrev pub verb_for : Asked → Verb
verb_for (receive bytes) = verbs.In
verb_for (work calls) = verbs.Work
verb_for reset = verbs.Reset
verb_for fault = verbs.Fault

-- the words behind it
abbrev pub words_for : Asked → List (List ℕ)
words_for (receive bytes) = map hex_byte bytes
words_for (work calls) = decimal calls ∷ []
words_for reset = []
words_for fault = []

-- the line that asks so
abbrev pub shown : Asked → List ℕ
shown a = line_text (verb_text (verb_for a)) (words_for a)

-- 1 to 522 bytes, as many as a frame has at most; 1 to 9999 work calls
abbrev pub Fits : Asked → Type 0
Fits (receive bytes) = (1 ≤ length bytes) × (length bytes ≤ 522) × Bytes bytes
Fits (work calls) = (1 ≤ calls) × (calls ≤ 9999)
Fits reset = Unit {0}
Fits fault = Unit {0}
