use Rattle.std.proofs.Common.{◌≡◌, ◌≤◌, ℕ, ◌+◌, ◌-◌, ◌*◌}
use Rattle.layout.specs.Cutting.{power_above}
use Rattle.layout.proofs.cutting.boundary.Given as goal

pub record Raised (whole power i : ℕ) : Type 0 where
  pub some : 1 ≤ power
  pub most : power ≤ 2 * whole + 1
  pub value : power_above (64 - i) power whole ≡ power_above 64 1 whole

abbrev pub invariant-loop : goal.invariant-loop
invariant-loop l = Raised l.whole l.power l.counter
