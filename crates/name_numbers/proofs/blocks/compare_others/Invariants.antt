use Rattle.std.proofs.Common.{◌≡◌, length}
use Rattle.name_numbers.specs.Placed.{AreAlike}
use Rattle.name_numbers.proofs.blocks.compare_others.Given as goal

abbrev pub invariant-loop-n : goal.invariant-loop-n
invariant-loop-n l = record {
  len : length l.alike ≡ length l.initial.alike;
  alike : AreAlike l.texts l.fn.from l.fn.count l.alike;
}
