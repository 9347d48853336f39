-- What calls lose by runs of them, so that what those before one lose is found quickly while sizes rise.
use Rattle.std.specs.Prelude.{◌≡◌, ℕ, ◌+◌, ◌*◌, ◌/◌, ◌<◌, ◌≤◌, List, length, map, slice_index_or}
use Rattle.std.specs.List.{range_with_len}
use Rattle.relax.specs.declared.jumps.Jump.{Jump}
use Rattle.relax.specs.declared.losses.Losses.{Losses}
use Rattle.relax.specs.Jumps.{AreBelow, AreLawful, lost_upto}

-- what the calls before each 16th lose, from the first on
abbrev pub coarse_sums : List ℕ → List ℕ
coarse_sums sizes = map (λ j. lost_upto sizes (j * 16)) (range_with_len 0 (length sizes / 16 + 1))

-- for each `width` calls, what they lose
pub record AreRuns (width : ℕ) (sizes runs : List ℕ) : Type 0 where
  pub covers : length sizes ≤ length runs * width
  pub each : (j : ℕ) → j < length runs → lost_upto sizes (j * width) + slice_index_or runs j 0 ≡ lost_upto sizes (j * width + width)

pub record AreLosses (sizes : List ℕ) (losses : Losses) : Type 0 where
  pub near : AreRuns 64 sizes losses.near.items
  pub far : AreRuns 4096 sizes losses.far.items

-- what holds of sizes while they rise
pub record AreRising (jumps : List Jump) (sizes : List ℕ) (held : Losses) : Type 0 where
  pub lawful : AreLawful jumps sizes
  pub below : AreBelow jumps sizes
  pub losses : AreLosses sizes held
