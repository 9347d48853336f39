use Rattle.std.proofs.Common.{◌≡◌, map, take}
use Rattle.std.specs.List.{All}
use Rattle.relax.specs.Points.{IsLowJump, jump_of}
use Rattle.relax.proofs.jumps.jumps_of.Given as goal

abbrev pub invariant-loop-k : goal.invariant-loop-k
invariant-loop-k l = record {
  jumps : l.jumps.items ≡ map (jump_of l.members l.rows) (take l.k l.calls);
  low : All IsLowJump l.jumps.items;
}
