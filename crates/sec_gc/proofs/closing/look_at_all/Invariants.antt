use Rattle.std.proofs.Common.{◌≡◌, vec_len}
use Rattle.sec_gc.specs.Closing.{KeepsSeen}
use Rattle.sec_gc.specs.Marks.{SitsAt}
use Rattle.sec_gc.proofs.Rounds.{Looked}
use Rattle.sec_gc.proofs.closing.look_at_all.Given as goal

abbrev pub invariant-loop-section : goal.invariant-loop-section
invariant-loop-section l = record {
  sits : SitsAt l.marks l.seat;
  keeps : KeepsSeen l.fn.seat.seen l.seat.seen;
  count : vec_len l.on ≡ l.section;
  looked : Looked l.marks l.fn.seat.seen l.seat.seen l.on.items;
}
