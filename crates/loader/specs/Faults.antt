-- A refusal of the memory, as a command reports it.
use Rattle.std.specs.Prelude.{ℕ}
use Rattle.memory.specs.declared.fault.MemoryFault.{MemoryFault}
use Rattle.part.specs.declared.report.CommandFault.{CommandFault}

abbrev pub in_command : ℕ → MemoryFault → CommandFault
in_command code fault = record { memory = fault; command = code }
