use Rattle.std.proofs.Common.{◌≡◌, ◌+◌, true, ℕ, arith}
use Rattle.link_sections.specs.Edges.{ends_of}
use Rattle.lk_tables.specs.Reach.{mark}
use Rattle.sec_gc.specs.Closing.{HasEnds, HaveEnds}
use Rattle.sec_gc.proofs.Rounds.{ends_more, found_keeps, rests_next, rests_none}
use Rattle.sec_gc.proofs.closing.mark_piece.Goals as goal

pub loop-section-init : goal.loop-section-init
loop-section-init c = record {
  sits = c.requires.seat;
  found = c.requires.found;
  rests = rests_none c.args.seat.seen c.args.on.now _ (λ f from lt. absurd (omega (arith, from, lt)));
}

pub loop-section-preserved : goal.loop-section-preserved
loop-section-preserved c =
    let inv = c.loop-section.invariant in
    let ends = ends_of c.args.edges.now in
    let on = c.args.on.now in
    let start : ℕ = c.args.piece.start in
    let i : ℕ = c.loop-section.section in
    let done = c.mark_section.ensures in
    record {
      sits = done.seat;
      found = found_keeps c.args.marks.now c.loop-section.seat.seen _ on done.keeps inv.found;
      rests = rests_next c.loop-section.seat.seen _ on (HaveEnds ends on start i) (mark on i ≡ true → HasEnds ends on i) (HaveEnds ends on start (i + 1)) c.loop-section.more c.mark_section.result _ (ends_more ends on start i) done.keeps c.any_of-more.ensures inv.rests done.rests;
    }
