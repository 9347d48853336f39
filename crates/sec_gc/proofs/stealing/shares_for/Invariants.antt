use Rattle.std.proofs.Common.{◌≡◌, All, vec_len}
use Rattle.sec_gc.specs.Closing.{KeepsSeen}
use Rattle.sec_gc.specs.Marks.{SitsAt}
use Rattle.sec_gc.proofs.stealing.shares_for.Given as goal

abbrev pub invariant-loop-worker : goal.invariant-loop-worker
invariant-loop-worker l = record {
  sits : SitsAt l.marks l.seat;
  keeps : KeepsSeen l.fn.seat.seen l.seat.seen;
  count : vec_len l.shares ≡ l.worker;
  seated : All (λ share. SitsAt l.marks share.seat) l.shares.items;
}
