-- The seven commands, what Get and Erase can name, and the protection level.
use Rattle.std.specs.Prelude.{ℕ, Bool, true, false, cond, if◌then◌else◌, List, [], ◌∷◌, ◌++◌, map, Some, None, Option, ◌==◌}
use Rattle.commands.specs.declared.kinds.Kind.{Kind}
use Rattle.commands.specs.declared.kinds.Kind.TheVariants.{Get, Read, Write, MemoryCrc, Erase, Protect, Unprotect}
use Rattle.commands.specs.declared.kinds.Level.{Level}
use Rattle.commands.specs.declared.kinds.NoCommand.{NoCommand}
use Rattle.commands.specs.declared.kinds.Information.{Information}
use Rattle.commands.specs.declared.kinds.Information.TheVariants.{Commands, Uid, Version, Device}
use Rattle.commands.specs.declared.kinds.NoInformation.{NoInformation}
use Rattle.commands.specs.declared.kinds.EraseMode.{EraseMode}
use Rattle.commands.specs.declared.kinds.EraseMode.TheVariants.{Pages, Blocks, All}
use Rattle.commands.specs.declared.kinds.NoMode.{NoMode}
use Rattle.commands.specs.declared.kinds.Level.TheVariants.{Open, Locked}

-- a command's byte in a frame
abbrev pub kind_byte : Kind → ℕ
kind_byte Get = 0x01
kind_byte Read = 0xF1
kind_byte Write = 0xF2
kind_byte MemoryCrc = 0xF3
kind_byte Erase = 0xF4
kind_byte Protect = 0xA0
kind_byte Unprotect = 0xA1

-- all the commands
abbrev pub kinds : List Kind
kinds = Get ∷ Read ∷ Write ∷ MemoryCrc ∷ Erase ∷ Protect ∷ Unprotect ∷ []

-- the first of some commands that has the byte
abbrev pub kind_among : List Kind → ℕ → Option Kind
kind_among [] b = None
kind_among (k ∷ ks) b = cond (b == kind_byte k) (Some k) (kind_among ks b)

-- the command that a byte stands for
abbrev pub kind_of : ℕ → Option Kind
kind_of b = kind_among kinds b

-- a byte that is no command's
abbrev pub no_command : ℕ → NoCommand
no_command b = record { 0 = b }

-- the list that Get answers: the connection byte, every command's byte, two bytes of zero
abbrev pub supported : List ℕ
supported = 0x5A ∷ (map kind_byte kinds ++ (0 ∷ 0 ∷ []))

-- the level that a number stands for: 0 is open, any other number is locked
abbrev pub level_from : ℕ → Level
level_from n = cond (n == 0) Open Locked

-- the level as the byte that Get tells
abbrev pub level_byte : Level → ℕ
level_byte Open = 0
level_byte Locked = 1

-- the commands that a level turns down: Unprotect at level 0, any but Get and Unprotect at level 1
abbrev pub forbidden : Level → Kind → Bool
forbidden Open Get = false
forbidden Open Read = false
forbidden Open Write = false
forbidden Open MemoryCrc = false
forbidden Open Erase = false
forbidden Open Protect = false
forbidden Open Unprotect = true
forbidden Locked Get = false
forbidden Locked Read = true
forbidden Locked Write = true
forbidden Locked MemoryCrc = true
forbidden Locked Erase = true
forbidden Locked Protect = true
forbidden Locked Unprotect = false

-- the number of an information in a Get
abbrev pub information_number : Information → ℕ
information_number Commands = 0
information_number Uid = 1
information_number Information.Level = 2
information_number Version = 3
information_number Device = 4

-- all the informations
abbrev pub informations : List Information
informations = Commands ∷ Uid ∷ Information.Level ∷ Version ∷ Device ∷ []

-- the first of some informations that has the number
abbrev pub information_among : List Information → ℕ → Option Information
information_among [] n = None
information_among (i ∷ is) n = if n == information_number i then Some i else information_among is n

-- the information that a number stands for
abbrev pub information_of : ℕ → Option Information
information_of n = information_among informations n

-- a number that is no information's
abbrev pub no_information : ℕ → NoInformation
no_information n = record { 0 = n }

-- the byte of a mode in an Erase
abbrev pub mode_byte : EraseMode → ℕ
mode_byte Pages = 0xAA
mode_byte Blocks = 0x55
mode_byte All = 0x3C

-- all the modes
abbrev pub modes : List EraseMode
modes = Pages ∷ Blocks ∷ All ∷ []

-- the first of some modes that has the byte
abbrev pub mode_among : List EraseMode → ℕ → Option EraseMode
mode_among [] b = None
mode_among (m ∷ ms) b = if b == mode_byte m then Some m else mode_among ms b

-- the mode that a byte stands for
abbrev pub mode_of : ℕ → Option EraseMode
mode_of b = mode_among modes b

-- a byte that is no mode's
abbrev pub no_mode : ℕ → NoMode
no_mode b = record { 0 = b }
