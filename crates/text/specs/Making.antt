-- What a line under construction holds.
use Rattle.std.specs.Prelude.{ℕ, List, vec_items}
use Rattle.text.specs.declared.output.Line.TheInside.{Inside}

abbrev pub so_far : Inside → List ℕ
so_far line = vec_items line.text
