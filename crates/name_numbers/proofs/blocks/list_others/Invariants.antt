use Rattle.name_numbers.specs.Placed.{AreOthers}
use Rattle.name_numbers.proofs.blocks.list_others.Given as goal

abbrev pub invariant-loop-n : goal.invariant-loop-n
invariant-loop-n l = AreOthers l.texts l.n l.others.items l.list.items
