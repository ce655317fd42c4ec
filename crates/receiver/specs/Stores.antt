-- The bytes of the open frame.
use Rattle.std.specs.Prelude.{ℕ, List, take}
use Rattle.receiver.specs.declared.store.FrameStore.{FrameStore}

-- the bytes so far
abbrev pub held : FrameStore → List ℕ
held s = take s.have s.bytes
