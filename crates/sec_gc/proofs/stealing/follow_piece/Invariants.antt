use Rattle.sec_gc.specs.Marks.{SitsAt}
use Rattle.sec_gc.proofs.stealing.follow_piece.Given as goal

abbrev pub invariant-loop-turn : goal.invariant-loop-turn
invariant-loop-turn l = SitsAt l.marks l.seat
