use Rattle.std.proofs.Common.{◌≡◌, ◌+◌, true, ℕ, arith}
use Rattle.link_sections.specs.Edges.{ends_of}
use Rattle.lk_tables.specs.Reach.{ends_at, mark}
use Rattle.sec_gc.specs.Closing.{AreOn}
use Rattle.sec_gc.specs.Marks.{section_at}
use Rattle.sec_gc.proofs.Rounds.{keeps_more, on_more, rests_next, rests_none}
use Rattle.sec_gc.proofs.closing.mark_ends.Goals as goal

pub loop-k-init : goal.loop-k-init
loop-k-init c = record {
  sits = c.requires.seat;
  keeps = λ f has. has;
  rests = rests_none c.args.seat.now.seen c.args.on.now _ (λ i lt. absurd (omega (arith, lt)));
}

pub loop-k-preserved : goal.loop-k-preserved
loop-k-preserved c =
    let inv = c.loop-k.invariant in
    let list = ends_at (ends_of c.args.edges.now) c.args.from in
    let on = c.args.on.now in
    let k : ℕ = c.loop-k.k in
    let done = c.mark_end.ensures in
    record {
      sits = done.seat;
      keeps = keeps_more c.args.seat.now.seen c.loop-k.seat.seen _ inv.keeps done.keeps;
      rests = rests_next c.loop-k.seat.seen _ on (AreOn on list k) (mark on (section_at list k) ≡ true) (AreOn on list (k + 1)) c.loop-k.more c.mark_end.result _ (on_more on list k) done.keeps c.any_of-more.ensures inv.rests done.rests;
    }
