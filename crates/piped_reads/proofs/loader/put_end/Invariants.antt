use Rattle.std.proofs.Common.{◌≡◌}
use Rattle.crossbeam_queue.specs.Passes.{view, IsPassOf, IsSamePass}
use Rattle.piped_reads.proofs.loader.put_end.Given as goal

abbrev pub invariant-loop : goal.invariant-loop
invariant-loop g l = IsPassOf l.line l.pass × IsSamePass l.fn.pass l.pass × (view l.pass ≡ view l.fn.pass)
