use Rattle.std.proofs.Common.{◌≡◌, ◌++◌}
use Rattle.crossbeam_queue.specs.Passes.{view, IsPassOf, IsSamePass}
use Rattle.piped_reads.specs.Loads.{end_marks}
use Rattle.piped_reads.specs.Rule.{hand}
use Rattle.piped_reads.proofs.loader.end_parsers.Given as goal

abbrev pub invariant-loop-number : goal.invariant-loop-number
invariant-loop-number g l = record {
  queue : IsPassOf l.line l.pass;
  same : IsSamePass l.fn.pass l.pass;
  marks : view l.pass ≡ hand ((view l.fn.pass).put ++ end_marks l.number) (view l.fn.pass).taken;
}
