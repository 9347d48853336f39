use Rattle.std.proofs.Common.{◌≡◌}
use Rattle.crossbeam_queue.specs.Passes.{view, IsPassOf, IsSamePass}
use Rattle.piped_reads.specs.Loads.{GoesOn}
use Rattle.piped_reads.proofs.parsers.take_all.Given as goal

abbrev pub invariant-loop : goal.invariant-loop
invariant-loop g l = record {
  queue : IsPassOf l.line l.pass;
  same : IsSamePass l.fn.pass l.pass;
  put : (view l.pass).put ≡ (view l.fn.pass).put;
  takes : GoesOn l.worker (view l.fn.pass).taken (view l.pass).taken l.fn.results.took.items l.results.took.items;
}
