use Rattle.link_sections.specs.Edges.{ends_of}
use Rattle.lk_tables.specs.Reach.{ends_at}
use Rattle.sec_gc.specs.Closing.{AreOn, KeepsSeen, Rests}
use Rattle.sec_gc.specs.Marks.{SitsAt}
use Rattle.sec_gc.proofs.closing.mark_ends.Given as goal

abbrev pub invariant-loop-k : goal.invariant-loop-k
invariant-loop-k l = record {
  sits : SitsAt l.marks l.seat;
  keeps : KeepsSeen l.fn.seat.seen l.seat.seen;
  rests : Rests l.seat.seen l.on (AreOn l.on (ends_at (ends_of l.edges) l.from) l.k) l.more;
}
