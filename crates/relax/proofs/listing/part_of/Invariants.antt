use Rattle.std.proofs.Common.{◌≡◌, ◌≤◌}
use Rattle.relax.specs.Scenes.{calls_between}
use Rattle.relax.proofs.listing.part_of.Given as goal

abbrev pub invariant-loop-from : goal.invariant-loop-from
invariant-loop-from l = (l.fn.piece.start ≤ l.from) × (l.rows ≡ calls_between l.scene l.on l.fn.piece.start l.from)
