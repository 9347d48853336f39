-- A line that is reported, as a test that a type can keep.
use Rattle.std.specs.Prelude.{◌==◌, ◌&&◌, ℕ, Bool, false, List, [], ◌∷◌}
use Rattle.lk_base.specs.Lines.{is_shown}

-- bytes that a terminal shows, and a newline at the end: what `IsOneLine` says
abbrev pub is_line : List ℕ → Bool
is_line [] = false
is_line (b ∷ []) = b == 10
is_line (b ∷ c ∷ rest) = is_shown b && is_line (c ∷ rest)
