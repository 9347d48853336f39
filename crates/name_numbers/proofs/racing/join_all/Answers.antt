use Rattle.std.proofs.Common.{◌++◌, ap, refl, sym, ◌∙◌, subst, map, All, arith, List}
use Rattle.std.specs.Vec.Iter.{into_iter_items}
use Rattle.intern_race.proofs.Sitting.{sits_joined}
use Rattle.intern_race.specs.Interning.{SitsAt}
use Rattle.name_numbers.specs.declared.racing.Placed.{Placed}
use Rattle.name_numbers.specs.Placed.{KeepsPlaced, slots_of}
use Rattle.seat_views.proofs.Joining.{among}
use Rattle.work_split.proofs.Sharing.{taken_all, taken_more}
use Rattle.name_numbers.proofs.Placing.{kept_next, lists_next}
use Rattle.name_numbers.proofs.racing.join_all.Goals as goal

pub join-requires-clause-other : goal.join-requires-clause-other
join-requires-clause-other c =
    among (λ (y : Placed). SitsAt c.args.table.now y.seat) c.loop-one.yielded (into_iter_items c.next.new.self) c.args.done.items c.in-Some.one
    (ap (λ l. c.loop-one.yielded ++ l) (sym c.in-Some.ensures.steps.0) ∙ c.loop-one.invariant.2) c.requires.done

pub loop-one-preserved : goal.loop-one-preserved
loop-one-preserved c =
    let one : Placed = c.in-Some.one in
    let before = c.loop-one.invariant in (
      tt,
      tt,
      taken_more c.loop-one.yielded _ _ c.args.done.items one before.2 c.in-Some.ensures.steps.0,
      sits_joined c.args.table.now c.loop-one.seat one.seat _ before.3 c.join.ensures.joined,
      kept_next c.loop-one.seat one.seat _ c.loop-one.yielded one refl c.join.ensures.joined before.4,
      lists_next c.loop-one.yielded one c.loop-one.lists.items c.push.new.self.items _ c.in-Some-slots.is c.in_ok-push.ensures.items before.5,
    )

pub returns : goal.returns
returns c =
    let before = c.loop-one.invariant in
    let all = taken_all c.loop-one.yielded (into_iter_items c.loop-one.one-iterator) c.args.done.items before.2 (let none = c.in-None.ensures.steps.0 in let counts = c.loop-one.one-iterator.rest.ok.0 in omega arith) in
    let P : List Placed → Type 0 = λ l. All (λ y. KeepsPlaced y.seat.placed c.loop-one.seat.placed) l in
    record { sits = before.3; kept = subst P all before.4; slots = sym (ap (map slots_of) all) ∙ before.5 }
