use Rattle.link_sections.specs.Edges.{ends_of}
use Rattle.sec_gc.specs.Closing.{AreFound, HaveEnds, Rests}
use Rattle.sec_gc.specs.Marks.{SitsAt}
use Rattle.sec_gc.proofs.closing.mark_piece.Given as goal

abbrev pub invariant-loop-section : goal.invariant-loop-section
invariant-loop-section l = record {
  sits : SitsAt l.marks l.seat;
  found : AreFound l.marks l.seat.seen l.on;
  rests : Rests l.seat.seen l.on (HaveEnds (ends_of l.edges) l.on l.fn.piece.start l.section) l.more;
}
