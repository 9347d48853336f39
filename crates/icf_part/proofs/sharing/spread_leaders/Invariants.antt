use Rattle.icf_part.specs.Chosen.{AreSpread}
use Rattle.icf_part.proofs.sharing.spread_leaders.Given as goal

abbrev pub invariant-loop-k : goal.invariant-loop-k
invariant-loop-k l = AreSpread l.fn.count l.chosen l.k l.leaders l.list.items
