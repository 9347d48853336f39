use Rattle.std.proofs.Common.{ℕ, ◌<◌, Contains}
use Rattle.sec_gc.specs.Marks.{SitsAt, section_at}
use Rattle.sec_gc.proofs.following.mark_roots.Given as goal

abbrev pub invariant-loop-k : goal.invariant-loop-k
invariant-loop-k l = record {
  sits : SitsAt l.marks l.seat;
  rooted : (i : ℕ) → i < l.k → Contains l.seat.seen (section_at l.roots i);
}
