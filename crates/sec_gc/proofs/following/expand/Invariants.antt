use Rattle.std.proofs.Common.{Contains}
use Rattle.sec_gc.specs.Closing.{KeepsSeen}
use Rattle.sec_gc.specs.Marks.{SitsAt}
use Rattle.sec_gc.proofs.following.expand.Given as goal

abbrev pub invariant-loop-k : goal.invariant-loop-k
invariant-loop-k l = record {
  sits : SitsAt l.marks l.seat;
  keeps : KeepsSeen l.fn.seat.seen l.seat.seen;
  known : Contains l.seat.seen l.from;
}
