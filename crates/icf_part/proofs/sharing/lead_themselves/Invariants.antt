use Rattle.std.proofs.Common.{◌≡◌, drop}
use Rattle.icf_part.specs.Chosen.{own_leading}
use Rattle.icf_part.proofs.sharing.lead_themselves.Given as goal

abbrev pub invariant-loop-i : goal.invariant-loop-i
invariant-loop-i l = own_leading (drop l.i l.sections) l.leaders.items ≡ own_leading l.sections l.fn.leaders.items
