-- Reading said by printing.
use Rattle.std.specs.Prelude.{◌≡◌, ℕ, List, IfSome, Some, Option}

-- what was read of some bytes, given how each thing is written: where they are the text of a thing, that thing was read; and
-- where a thing was read, they are its text
pub record Reads {X : Type 0} (text : X → List ℕ) (fits : X → Type 0) (bytes : List ℕ) (read : Option X) : Type 0 where
  pub every : (x : X) → fits x → text x ≡ bytes → read ≡ Some x
  pub only : IfSome read (λ x. (text x ≡ bytes) × fits x)
