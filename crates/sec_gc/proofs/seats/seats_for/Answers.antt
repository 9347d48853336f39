use Rattle.std.proofs.Common.{◌≡◌, rules, ap, ◌∙◌}
use Rattle.std.proofs.lemmas.List.Elements.{All-push, All-same}
use Rattle.sec_gc.specs.Marks.{SeatView, SitsAt}
use Rattle.sec_gc.proofs.Sitting.{sits_newcomer, sits_split}
use Rattle.sec_gc.proofs.seats.seats_for.Goals as goal

pub loop-worker-preserved : goal.loop-worker-preserved
loop-worker-preserved c =
    let before = c.loop-worker.invariant in
    let seen = ap (λ (s : SeatView). s.seen) c.split.ensures.step ∙ before.seen in
    let new = sits_newcomer c.args.marks.now c.loop-worker.seat c.split.result before.sits c.split.ensures.split in
    let Same : SeatView → Type 0 = λ s. s.seen ≡ c.args.seat.now.seen in
    let own : Same c.split.result = ap (λ (s : SeatView). s.seen) c.split.ensures.split ∙ before.seen in record {
      sits = sits_split _ c.loop-worker.seat _ before.sits c.split.ensures.step;
      seen = seen;
      count = search rules;
      seated = All-same (SitsAt c.args.marks.now) _ _ c.in_ok-push.ensures.items (All-push (SitsAt c.args.marks.now) c.loop-worker.seats.items c.split.result before.seated new);
      same = All-same Same _ _ c.in_ok-push.ensures.items (All-push Same c.loop-worker.seats.items c.split.result before.same own);
    }
