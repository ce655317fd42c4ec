-- A flash's refusal with the address of what was asked for.
use Rattle.std.specs.Prelude.{ℕ, ◌+◌, ◌*◌, ◌%◌, ◌^◌}
use Rattle.flash.specs.declared.fault.Asked.{Asked}
use Rattle.flash.specs.declared.fault.Asked.TheVariants.{Page, Word, OptionWord, OptionWrite}
use Rattle.flash.specs.declared.fault.FlashFault.{FlashFault}
use Rattle.memory.specs.declared.fault.MemoryFault.{MemoryFault}

-- the address of a page's first word, of a word, of an option word, and of the option words; a number beyond every flash
-- wraps at 2^32
abbrev pub address_of : Asked → ℕ
address_of (Page p) = (0x08000000 + 512 * p) % 2 ^ 32
address_of (Word i) = (0x08000000 + 4 * i) % 2 ^ 32
address_of (OptionWord i) = (0x1FFFF800 + 4 * i) % 2 ^ 32
address_of OptionWrite = 0x1FFFF800

-- the refusal, whole, and its address
abbrev pub in_memory : FlashFault → MemoryFault
in_memory f = record { flash = f; address = address_of f.asked }
