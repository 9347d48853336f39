use Rattle.std.proofs.Common.{◌≡◌, ◌+◌, ◌++◌, ◌∷◌, [], true, false, sym, ◌∙◌, ap, subst, rules, arith, set, is_ok, vec_len, All}
use Rattle.std.proofs.lemmas.Grind.{common_steps}
use Rattle.std.proofs.lemmas.List.Elements.{All-set, All-append}
use Rattle.lk_depot.specs.Overlays.{files_from}
use Rattle.lk_depot.specs.Shelf.{fails_now}
use Rattle.lk_depot.proofs.EachOf.{all_front, all_last, all_one}
use Rattle.lk_depot.proofs.OutputMaps.{IsHeldAt, room_found, as_many_begun, one_more_pushed}
use Rattle.lk_depot.proofs.ShelfSteps.{Shows, BeginRefused, Begun, begin_third, begin_again, begin_new}
use Rattle.lk_depot.proofs.mem_depot.MemDepotDepot.begin.Goals as goal

-- the output is there
again : (c : goal.After-self-in-Some-1) → Begun c.args.self.now c.args.name.now c.args.kind (files_from c.self.inside.inputs.items) (set c.self.inside.outputs.items c.in-Some.place c.start.new.self)
again c =
    let inside = c.self.inside in
    let shows : Shows c.args.self.now inside.outputs.items (files_from inside.inputs.items) = record {
      files = ap (λ s. s.files) (sym c.self.view_is);
      kinds = ap (λ s. s.kinds) (sym c.self.view_is);
    } in
    let placed : IsHeldAt inside.outputs.items c.args.name.now c.in-Some.place c.index_mut-slot.result.now = record {
      found = sym (rw c.as_slice.ensures.value at c.in-Some.ensures);
      here = search rules;
    } in
    let listed : fails_now c.args.self.now ≡ false = rw (← c.self.view_is) (sym c.if-next_fails.ensures.listed) in
    rw c.start.ensures (begin_again c.args.self.now inside.outputs.items (files_from inside.inputs.items) shows c.args.name.now c.in-Some.place c.index_mut-slot.result.now placed
    c.args.kind c.index_mut-slot.result.now.room listed (omega arith))

pub invariant_of-self-in-Some : goal.invariant_of-self-in-Some
invariant_of-self-in-Some c =
    let outputs = c.self.inside.outputs.items in
    let inputs = files_from c.self.inside.inputs.items in
    let held = c.index_mut-slot.result.now in
    let placed : IsHeldAt outputs c.args.name.now c.in-Some.place held = record {
      found = sym (rw c.as_slice.ensures.value at c.in-Some.ensures);
      here = search rules;
    } in
    let as_many = as_many_begun outputs inputs c.args.name.now c.in-Some.place held placed c.args.kind held.room in
    let room = room_found outputs inputs c.args.name.now c.in-Some.place held placed c.self.inside.room c.self.invariant.outputs_room in
    record {
      two = c.self.invariant.two;
      capacity = c.self.invariant.capacity;
      apart = rw (c.start.ensures, as_many) c.self.invariant.apart;
      outputs_room = All-set (λ h. h.room ≡ c.self.inside.room) outputs c.in-Some.place c.start.new.self
          (ap (λ h. h.room) c.start.ensures ∙ room) c.self.invariant.outputs_room;
      spare_room = c.self.invariant.spare_room;
      some = c.self.invariant.some;
    }

pub returns-in-Some-clause-answer : goal.returns-in-Some-clause-answer
returns-in-Some-clause-answer c = sym (again c).0

pub returns-in-Some-clause-after : goal.returns-in-Some-clause-after
returns-in-Some-clause-after c = rw ((again c).1, ← c.self.view_is) (grind (arith, common_steps))

-- two others are outputs
third : (c : goal.After-counted-in_default-pop) → BeginRefused c.args.self.now c.args.name.now c.args.kind
third c =
    let inside = c.self.inside in
    let shows : Shows c.args.self.now inside.outputs.items (files_from inside.inputs.items) = record {
      files = ap (λ s. s.files) (sym c.self.view_is);
      kinds = ap (λ s. s.kinds) (sym c.self.view_is);
    } in
    begin_third c.args.self.now inside.outputs.items (files_from inside.inputs.items) shows c.args.name.now (sym (rw c.as_slice.ensures.value at c.in_default.ensures)) c.args.kind
    (omega (arith, c.self.invariant.apart, c.self.invariant.two, c.in_default-pop.ensures.cases))

pub returns-in_default-pop-clause-answer : goal.returns-in_default-pop-clause-answer
returns-in_default-pop-clause-answer c = sym (third c).0

pub returns-in_default-pop-clause-after : goal.returns-in_default-pop-clause-after
returns-in_default-pop-clause-after c = rw ((third c).1, ← c.self.view_is) (grind (arith, common_steps))

-- what the push left
pushed : (c : goal.Else-is_err) → c.push.new.self.items ≡ c.self.inside.outputs.items ++ c.start-2.new.self ∷ []
pushed c = let ok : is_ok c.push.result ≡ true = c.if-is_err.ensures.negation in rw ok at c.push.ensures.items

-- a spare one serves
new : (c : goal.Else-is_err) → Begun c.args.self.now c.args.name.now c.args.kind (files_from c.self.inside.inputs.items) c.push.new.self.items
new c =
    let inside = c.self.inside in
    let shows : Shows c.args.self.now inside.outputs.items (files_from inside.inputs.items) = record {
      files = ap (λ s. s.files) (sym c.self.view_is);
      kinds = ap (λ s. s.kinds) (sym c.self.view_is);
    } in
    let listed : fails_now c.args.self.now ≡ false = rw (← c.self.view_is) (sym c.if-next_fails.ensures.listed) in
    rw (pushed c, c.start-2.ensures) (begin_new c.args.self.now inside.outputs.items (files_from inside.inputs.items) shows c.args.name.now (sym (rw c.as_slice.ensures.value at c.in_default.ensures))
    c.args.kind c.in-Some-pop.slot.room listed (omega arith) (omega (arith, c.self.invariant.apart, c.self.invariant.two, c.in-Some-pop.ensures.len)))

pub invariant_of-self-2 : goal.invariant_of-self-2
invariant_of-self-2 c =
    let outputs = c.self.inside.outputs.items in
    let ok : is_ok c.push.result ≡ true = c.if-is_err.ensures.negation in
    let longer : vec_len c.push.new.self ≡ vec_len c.self.inside.outputs + 1 = rw ok at c.push.ensures.len in
    let rooms = subst (All (λ h. h.room ≡ c.self.inside.room)) c.in-Some-pop.ensures.items c.self.invariant.spare_room in
    let room : c.start-2.new.self.room ≡ c.self.inside.room =
    ap (λ h. h.room) c.start-2.ensures ∙ all_last (λ h. h.room ≡ c.self.inside.room) c.pop.new.self.items c.in-Some-pop.slot rooms in
    let more = one_more_pushed outputs (files_from c.self.inside.inputs.items) c.args.name.now (sym (rw c.as_slice.ensures.value at c.in_default.ensures)) c.args.kind c.in-Some-pop.slot.room in
    record {
      two = omega (arith, longer, c.in-Some-pop.ensures.len, c.self.invariant.two);
      capacity = omega (arith, c.push.ensures.capacity, c.self.invariant.capacity);
      apart = rw (pushed c, c.start-2.ensures, more) (omega (arith, longer, c.self.invariant.apart));
      outputs_room = rw (pushed c) (All-append (λ h. h.room ≡ c.self.inside.room) outputs (c.start-2.new.self ∷ []) c.self.invariant.outputs_room
          (all_one (λ h. h.room ≡ c.self.inside.room) c.start-2.new.self room));
      spare_room = all_front (λ h. h.room ≡ c.self.inside.room) c.pop.new.self.items (c.in-Some-pop.slot ∷ []) rooms;
      some = c.self.invariant.some;
    }

pub returns-clause-after : goal.returns-clause-after
returns-clause-after c = rw ((new c).1, ← c.self.view_is) (grind (arith, common_steps))
