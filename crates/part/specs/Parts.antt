-- The part: a loader with its flash.
use Rattle.std.specs.Prelude.{ℕ, Bool, false, List, [], None, Option, slice_index}
use Rattle.commands.specs.declared.kinds.Level.{Level}
use Rattle.flash.specs.Meaning.{Meaning, without_words}
use Rattle.part.specs.declared.identity.Identity.{Identity}
use Rattle.part.specs.declared.report.CommandFault.{CommandFault}
use Rattle.part.specs.Levels.{level_of}

-- the receiver's side: connected or not, and the bytes of the open frame, from its head on; none between frames
pub record Wire : Type 0 where
  pub connected : Bool
  pub frame : List ℕ

-- a command of an open part that takes more than one call, with what has been done of it
pub data Task : Type 0 where
  -- user words from a number on, their bytes, words done
  writing : ℕ → List ℕ → ℕ → Task
  -- option words from a number on, their bytes
  setting : ℕ → List ℕ → Task
  -- user words from a number on, how many, the checksum to compare with, words done, the running checksum's register
  checking : ℕ → ℕ → ℕ → ℕ → ℕ → Task
  -- pages from a number on, how many, pages done
  erasing : ℕ → ℕ → ℕ → Task
  protecting : Task

-- the command in hand: none, an Unprotect with so many pages done, or another
pub data Hand : Type 0 where
  none : Hand
  unprotecting : ℕ → Hand
  doing : Task → Hand

pub record Part : Type 0 where
  pub identity : Identity
  pub wire : Wire
  pub hand : Hand
  -- the reset ticket is out
  pub ticket : Bool
  -- the level as it was loaded at the last start
  pub level : Level
  -- the last fault report
  pub last : Option CommandFault
  pub flash : Meaning

-- a part as it starts: unconnected, no command in hand, no ticket, no fault, the level loaded from option word 0
abbrev pub started : Identity → Meaning → Part
started i m = record {
  identity = i;
  wire = record { connected = false; frame = [] };
  hand = none;
  ticket = false;
  level = level_of (slice_index m.options 0);
  last = None;
  flash = m;
}

-- the same part after its loader has started again
abbrev pub restarted : Part → Part
restarted p = started p.identity p.flash

-- the part without its user words: two parts agree in all but user words where this is equal
abbrev pub outward : Part → Part
outward p = record {
  identity = p.identity;
  wire = p.wire;
  hand = p.hand;
  ticket = p.ticket;
  level = p.level;
  last = p.last;
  flash = without_words p.flash;
}
