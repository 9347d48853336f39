use Rattle.icf_part.specs.Classes.{AreItems, lists_of}
use Rattle.icf_part.proofs.classes.member_lists.Given as goal

abbrev pub invariant-loop-a : goal.invariant-loop-a
invariant-loop-a l = AreItems l.labels l.a (lists_of l.lists.items)
