use Rattle.name_numbers.specs.Marks.{AreMarked}
use Rattle.name_numbers.proofs.numbers.mark_firsts.Given as goal

abbrev pub invariant-loop-k : goal.invariant-loop-k
invariant-loop-k l = AreMarked l.symbols l.indexes l.k l.initial.firsts l.firsts
