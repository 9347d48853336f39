-- What a sink means.
use Rattle.std.specs.Prelude.{ℕ, List, ◌++◌, Option}
use Rattle.std.specs.Option.{option_map}

-- `written` is `None` if the sink does not show it. `faults` counts failed calls.
pub record Output : Type 0 where
  pub written : Option (List ℕ)
  pub faults : ℕ

-- What was written, once these bytes follow.
abbrev pub said_if_seen : List ℕ → Option (List ℕ) → Option (List ℕ)
said_if_seen bytes written = option_map (λ before. before ++ bytes) written
