use Rattle.std.proofs.Common.{◌<◌, All}
use Rattle.tests_image.proofs.tests.kept.all_sections.Given as goal

abbrev pub invariant-loop-section : goal.invariant-loop-section
invariant-loop-section l = All (λ end. end < 50000) l.list.items
