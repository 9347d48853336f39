use Rattle.std.proofs.Common.{◌+◌, ◌-◌, ◌/◌}
use native.Mathlib.Nat.{mul-mod_left}
use Rattle.lk_base.specs.Arithmetic.{up}
use Rattle.lk_base.proofs.arithmetic.up.Goals as goal

pub returns-clause-multiple : goal.returns-clause-multiple
unfolding up
returns-clause-multiple c = mul-mod_left ((c.args.x + (c.args.align - 1)) / c.args.align) c.args.align
