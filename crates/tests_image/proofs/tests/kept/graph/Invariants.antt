use Rattle.std.proofs.Common.{◌≡◌, ◌<◌, All, length}
use Rattle.tests_image.proofs.tests.kept.graph.Given as goal

abbrev pub invariant-loop-section : goal.invariant-loop-section
invariant-loop-section l = record {
  within : All (All (λ end. end < 50000)) l.rows;
  count : length l.rows ≡ l.section;
}
