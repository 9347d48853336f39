-- An output file in memory.
use Rattle.std.specs.Prelude.{ℕ, List}
use Rattle.lk_depot.specs.declared.kinds.FileKind.{FileKind}

-- `room` is the most bytes that it takes.
pub record Held : Type 0 where
  pub name : List ℕ
  pub kind : FileKind
  pub bytes : List ℕ
  pub room : ℕ
