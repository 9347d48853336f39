use Rattle.sec_gc.proofs.Rounds.{RoundAt}
use Rattle.lk_tables.specs.Reach.{unmarked}
use Rattle.sec_gc.proofs.closing.close_rounds.Given as goal

abbrev pub invariant-loop-more : goal.invariant-loop-more
invariant-loop-more g l = RoundAt l.marks l.fn.seat.seen l.seat l.on.items l.more

abbrev pub decreases-loop-more : goal.decreases-loop-more
decreases-loop-more g l = unmarked l.on.items
