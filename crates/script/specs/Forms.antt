-- What a line of the frame tool asks for, as numbers and bytes; and its text.
use Rattle.std.specs.Prelude.{ℕ, ◌^◌, ◌<◌, List, [], ◌∷◌, map, vec_items, codes, decimal}
use Rattle.std.specs.Global.{Vec}
use Rattle.commands.specs.Fields.{Bytes}
use Rattle.commands.specs.Requests.{Request, Fitting, get, read, write, memory_crc, erase, protect, unprotect}
use Rattle.script.specs.declared.form.Form.{Form}
use Rattle.script.specs.declared.form.Form.TheVariants as forms
use Rattle.codec.specs.declared.request.Request.{Request as Order}
use Rattle.codec.specs.Writing.{asked_by}
use Rattle.script.specs.declared.form.Verb.{Verb}
use Rattle.script.specs.declared.form.Verb.TheVariants as verbs
use Rattle.text.specs.Digits.{hex_byte, hex_short, hex_long}
use Rattle.text.specs.Lines.{line_text}

pub data Asked : Type 0 where
  -- the frame of a request
  request : Request → Asked
  -- what an answer frame says
  answer : List ℕ → Asked
  -- level, pages, and the frame to be judged
  verdict : ℕ → ℕ → List ℕ → Asked

-- what an order and a form ask for, without their vectors
abbrev pub ordered : Order (Vec ℕ) → Request
ordered = asked_by vec_items

abbrev pub meant : Form → Asked
meant (forms.Request order) = request (ordered order)
meant (forms.Answer bytes) = answer (vec_items bytes)
meant (forms.Verdict level pages bytes) = verdict level pages (vec_items bytes)

-- the word that a line begins with
abbrev pub verb_text : Verb → List ℕ
verb_text verbs.Get = codes "get"
verb_text verbs.Read = codes "read"
verb_text verbs.Write = codes "write"
verb_text verbs.Crc = codes "crc"
verb_text verbs.Erase = codes "erase"
verb_text verbs.Protect = codes "protect"
verb_text verbs.Unprotect = codes "unprotect"
verb_text verbs.Answer = codes "answer"
verb_text verbs.Verdict = codes "verdict"

abbrev pub verb_for : Asked → Verb
verb_for (request (get information)) = verbs.Get
verb_for (request (read address count)) = verbs.Read
verb_for (request (write address bytes)) = verbs.Write
verb_for (request (memory_crc address count value)) = verbs.Crc
verb_for (request (erase mode index count)) = verbs.Erase
verb_for (request protect) = verbs.Protect
verb_for (request unprotect) = verbs.Unprotect
verb_for (answer bytes) = verbs.Answer
verb_for (verdict level pages bytes) = verbs.Verdict

-- the words behind it
abbrev pub words_for : Asked → List (List ℕ)
words_for (request (get information)) = decimal information ∷ []
words_for (request (read address count)) = hex_long address ∷ decimal count ∷ []
words_for (request (write address bytes)) = hex_long address ∷ map hex_byte bytes
words_for (request (memory_crc address count value)) = hex_long address ∷ decimal count ∷ hex_short value ∷ []
words_for (request (erase mode index count)) = hex_byte mode ∷ decimal index ∷ decimal count ∷ []
words_for (request protect) = []
words_for (request unprotect) = []
words_for (answer bytes) = map hex_byte bytes
words_for (verdict level pages bytes) = decimal level ∷ decimal pages ∷ map hex_byte bytes

-- the line that asks so
abbrev pub shown : Asked → List ℕ
shown a = line_text (verb_text (verb_for a)) (words_for a)

-- the numbers are as large as the forms of a line can have them
abbrev pub Fits : Asked → Type 0
Fits (request q) = Fitting q
Fits (answer bytes) = Bytes bytes
Fits (verdict level pages bytes) = (level < 2 ^ 32) × (pages < 2 ^ 32) × Bytes bytes
