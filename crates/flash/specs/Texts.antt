-- What `{}` prints of a refusal.
use Rattle.std.specs.Prelude.{ℕ, List, ◌++◌, codes, decimal}
use Rattle.flash.specs.declared.fault.Asked.{Asked}
use Rattle.flash.specs.declared.fault.Asked.TheVariants.{Page, Word, OptionWord, OptionWrite}
use Rattle.flash.specs.declared.fault.Cause.{Cause}
use Rattle.flash.specs.declared.fault.Cause.TheVariants.{Range, NotErased, Worn}
use Rattle.flash.specs.declared.fault.FlashFault.{FlashFault}

abbrev pub cause_text : Cause → List ℕ
cause_text Range = codes "out of range"
cause_text NotErased = codes "not erased"
cause_text Worn = codes "worn"

-- the number behind what it counts
abbrev pub asked_text : Asked → List ℕ
asked_text (Page p) = codes "page " ++ decimal p
asked_text (Word i) = codes "word " ++ decimal i
asked_text (OptionWord i) = codes "option word " ++ decimal i
asked_text OptionWrite = codes "option write"

-- the cause, a comma, and what was asked for
abbrev pub fault_text : FlashFault → List ℕ
fault_text fault = cause_text fault.cause ++ codes ", " ++ asked_text fault.asked
