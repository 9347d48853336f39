use Rattle.std.proofs.Common.{◌≡◌, All, vec_len}
use Rattle.sec_gc.specs.Marks.{SitsAt}
use Rattle.sec_gc.proofs.seats.seats_for.Given as goal

abbrev pub invariant-loop-worker : goal.invariant-loop-worker
invariant-loop-worker l = record {
  sits : SitsAt l.marks l.seat;
  seen : l.seat.seen ≡ l.fn.seat.seen;
  count : vec_len l.seats ≡ l.worker;
  seated : All (SitsAt l.marks) l.seats.items;
  same : All (λ other. other.seen ≡ l.fn.seat.seen) l.seats.items;
}
