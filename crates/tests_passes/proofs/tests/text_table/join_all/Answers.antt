use Rattle.std.proofs.Common.{◌++◌, ap, sym, ◌∙◌}
use Rattle.std.specs.Vec.Iter.{into_iter_items}
use Rattle.work_split.proofs.Sharing.{taken_more}
use Rattle.intern_race.proofs.Sitting.{sits_joined}
use Rattle.intern_race.specs.Interning.{SeatView, SitsAt}
use Rattle.seat_views.proofs.Joining.{among}
use Rattle.tests_passes.proofs.tests.text_table.join_all.Goals as goal

pub join-requires-clause-other : goal.join-requires-clause-other
join-requires-clause-other c =
    among (SitsAt c.args.interner.now) c.loop-other.yielded (into_iter_items c.next.new.self) c.args.others.items c.in-Some.other
    (ap (λ l. c.loop-other.yielded ++ l) (sym c.in-Some.ensures.steps.0) ∙ c.loop-other.invariant.2) c.requires.others

pub loop-other-preserved : goal.loop-other-preserved
loop-other-preserved c =
    let other : SeatView = c.in-Some.other in
    let before = c.loop-other.invariant in (
      tt,
      tt,
      taken_more c.loop-other.yielded _ _ c.args.others.items other before.2 c.in-Some.ensures.steps.0,
      sits_joined c.args.interner.now c.loop-other.seat other _ before.3 c.join.ensures.joined,
    )
