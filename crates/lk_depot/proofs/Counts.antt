-- Laws of counts that rise.
use Rattle.std.proofs.Common.{ℕ, ◌≤◌, arith}
use Rattle.lk_depot.specs.Faults.{Rose}

pub later_then_rose : (a b c : ℕ) → a ≤ b → Rose b c → Rose a c
later_then_rose a b c later rose = omega arith
