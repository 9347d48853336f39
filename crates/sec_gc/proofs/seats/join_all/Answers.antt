use Rattle.std.proofs.Common.{◌≡◌, ◌++◌, true, false, ap, sym, ◌∙◌, subst, All, arith, List}
use Rattle.std.specs.Vec.Iter.{into_iter_items}
use Rattle.sec_gc.specs.declared.closing.Done.{Done}
use Rattle.sec_gc.specs.Closing.{KeepsSeen}
use Rattle.sec_gc.specs.Marks.{SeatView, SitsAt}
use Rattle.sec_gc.specs.Workers.{HasMore}
use Rattle.sec_gc.proofs.Sitting.{sits_joined}
use Rattle.sec_gc.proofs.Rounds.{joined_more}
use Rattle.seat_views.proofs.Joining.{among}
use Rattle.work_split.proofs.Sharing.{taken_all, taken_more}
use Rattle.sec_gc.proofs.seats.join_all.Goals as goal

pub loop-done-preserved : goal.loop-done-preserved
loop-done-preserved c =
    let done : Done = c.in-Some.done in
    let before = c.loop-done.invariant in
    let step = c.join.ensures in
    let sits : SitsAt c.args.marks.now done.seat =
    among (λ (d : Done). SitsAt c.args.marks.now d.seat) c.loop-done.yielded (into_iter_items c.next.new.self) c.args.others.items done
    (ap (λ l. c.loop-done.yielded ++ l) (sym c.in-Some.ensures.steps.0) ∙ before.2) c.requires.others in
    let all = joined_more c.args.seat.now.seen c.loop-done.seat done c.loop-done.yielded _ c.loop-done.more _ step c.any_of-more.ensures before.4 before.5 before.6 before.7 in (
      tt,
      tt,
      taken_more c.loop-done.yielded _ _ c.args.others.items done before.2 c.in-Some.ensures.steps.0,
      sits_joined _ c.loop-done.seat done.seat _ before.3 step,
      all.0,
      all.1,
      all.2,
      all.3,
    )

pub returns : goal.returns
returns c =
    let before = c.loop-done.invariant in
    let s : SeatView = c.loop-done.seat in
    let same = taken_all c.loop-done.yielded (into_iter_items c.loop-done.done-iterator) c.args.others.items before.2 (let none = c.in-None.ensures.steps.0 in let counts = c.loop-done.done-iterator.rest.ok.0 in omega arith) in
    record {
      sits = before.3;
      keeps = before.4;
      kept = subst (λ (l : List Done). All (λ d. KeepsSeen d.seat.seen s.seen) l) same before.5;
      some = subst (λ (l : List Done). c.loop-done.more ≡ true → HasMore l) same before.6;
      none = subst (λ (l : List Done). c.loop-done.more ≡ false → All (λ d. d.more ≡ false) l) same before.7;
    }
