use Rattle.std.proofs.Common.{◌≤◌, ◌+◌, map, drop, length}
use Rattle.link_sections.specs.LaidOut.{output_view}
use Rattle.symbol_table.specs.Noted.{AreNoted, noted}
use Rattle.symbol_table.proofs.outputs.Outputs.of.Given as goal

abbrev pub decreases-loop-left : goal.decreases-loop-left
decreases-loop-left l = l.left

abbrev pub invariant-loop-left : goal.invariant-loop-left
invariant-loop-left l = record {
  low : l.left ≤ length l.list;
  known : AreNoted (l.left + 1) (map output_view (drop l.left l.list)) (noted l.known);
}
