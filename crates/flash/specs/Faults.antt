-- The refusals of a flash. No other definition makes one.
use Rattle.std.specs.Prelude.{ℕ}
use Rattle.flash.specs.declared.fault.Asked.TheVariants.{Page, Word, OptionWord, OptionWrite}
use Rattle.flash.specs.declared.fault.Cause.TheVariants.{Range, NotErased, Worn}
use Rattle.flash.specs.declared.fault.FlashFault.{FlashFault}

abbrev pub no_page : ℕ → FlashFault
no_page p = record { cause = Range; asked = Page p }

abbrev pub no_word : ℕ → FlashFault
no_word i = record { cause = Range; asked = Word i }

abbrev pub no_option_word : ℕ → FlashFault
no_option_word i = record { cause = Range; asked = OptionWord i }

abbrev pub word_not_erased : ℕ → FlashFault
word_not_erased i = record { cause = NotErased; asked = Word i }

abbrev pub page_worn : ℕ → FlashFault
page_worn p = record { cause = Worn; asked = Page p }

abbrev pub options_worn : FlashFault
options_worn = record { cause = Worn; asked = OptionWrite }
