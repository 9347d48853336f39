use Rattle.str_merge.specs.Members.{AreMembers}
use Rattle.str_merge.proofs.members.members_of.Given as goal

abbrev pub invariant-loop-i : goal.invariant-loop-i
invariant-loop-i l = AreMembers l.numbers l.fn.count l.i l.lists.items
