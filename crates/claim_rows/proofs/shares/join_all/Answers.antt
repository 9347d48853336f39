use Rattle.std.proofs.Common.{◌++◌, ◌∷◌, [], ap, sym, ◌∙◌, subst, All, arith, List}
use Rattle.std.specs.Vec.Iter.{into_iter_items}
use Rattle.rank_claims.specs.Claims.{SeatView, SitsAt}
use Rattle.rank_claims.proofs.Sitting.{sits_joined}
use Rattle.claim_rows.specs.Shares.{KeepsClaims}
use Rattle.work_split.proofs.Sharing.{taken_all, taken_more}
use Rattle.claim_rows.proofs.Sharing.{keeps-joined, kept-more}
use Rattle.seat_views.proofs.Joining.{among}
use Rattle.claim_rows.proofs.shares.join_all.Goals as goal

pub loop-other-preserved : goal.loop-other-preserved
loop-other-preserved c =
    let other : SeatView = c.in-Some.other in
    let before = c.loop-other.invariant in
    let joined = c.join.ensures in
    let sits : SitsAt c.args.claims.now c.in-Some.other =
    among (SitsAt c.args.claims.now) c.loop-other.yielded (into_iter_items c.next.new.self) c.args.others.items other
    (ap (λ l. c.loop-other.yielded ++ l) (sym c.in-Some.ensures.steps.0) ∙ before.2) c.requires.others in
    let P : SeatView → Type 0 = λ s. All (λ o. KeepsClaims o.steps s.steps) (c.loop-other.yielded ++ other ∷ []) in (
      tt,
      tt,
      taken_more c.loop-other.yielded _ _ c.args.others.items other before.2 c.in-Some.ensures.steps.0,
      sits_joined _ c.loop-other.seat other _ before.3 sits joined,
      keeps-joined c.args.seat.now.steps c.loop-other.seat other _ before.4 joined,
      subst P (sym joined) (kept-more c.loop-other.seat.steps other c.loop-other.yielded before.5),
    )

pub returns-clause-kept : goal.returns-clause-kept
returns-clause-kept c =
    let before = c.loop-other.invariant in
    let P : List SeatView → Type 0 = λ l. All (λ o. KeepsClaims o.steps c.loop-other.seat.steps) l in
    subst P (taken_all c.loop-other.yielded (into_iter_items c.loop-other.other-iterator) c.args.others.items before.2 (let none = c.in-None.ensures.steps.0 in let counts = c.loop-other.other-iterator.rest.ok.0 in omega arith)) before.5
