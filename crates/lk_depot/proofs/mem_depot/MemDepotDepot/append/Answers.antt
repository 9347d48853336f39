use Rattle.std.proofs.Common.{◌≡◌, false, sym, ◌∙◌, ap, rules, arith, set}
use Rattle.std.proofs.lemmas.Grind.{common_steps}
use Rattle.std.proofs.lemmas.List.Elements.{All-set}
use Rattle.std.specs.FinMap.{len}
use Rattle.lk_depot.specs.Overlays.{files_from}
use Rattle.lk_depot.specs.Shelf.{fails_now}
use Rattle.lk_depot.proofs.OutputMaps.{IsHeldAt, kinds_appended, room_found, same_output}
use Rattle.lk_depot.proofs.ShelfSteps.{Shows, AppendRefused, Appended, append_to_none, append_to_full, append_some}
use Rattle.lk_depot.proofs.mem_depot.MemDepotDepot.append.Goals as goal

-- the name is no output
to_none : (c : goal.After-counted-in_default) → AppendRefused c.args.self.now c.args.name.now c.args.piece.now
to_none c =
    let inside = c.self.inside in
    let shows : Shows c.args.self.now inside.outputs.items (files_from inside.inputs.items) = record {
      files = ap (λ s. s.files) (sym c.self.view_is);
      kinds = ap (λ s. s.kinds) (sym c.self.view_is);
    } in
    append_to_none c.args.self.now inside.outputs.items (files_from inside.inputs.items) shows c.args.name.now
    (sym (rw c.as_slice.ensures.value at c.in_default.ensures)) c.args.piece.now

pub returns-in_default-clause-answer : goal.returns-in_default-clause-answer
returns-in_default-clause-answer c = sym (to_none c).0

pub returns-in_default-clause-after : goal.returns-in_default-clause-after
returns-in_default-clause-after c = rw ((to_none c).1, ← c.self.view_is) (grind (arith, common_steps))

-- the output has no room left
to_full : (c : goal.After-counted-then-room_left-eq0) → AppendRefused c.args.self.now c.args.name.now c.args.piece.now
to_full c =
    let inside = c.self.inside in
    let shows : Shows c.args.self.now inside.outputs.items (files_from inside.inputs.items) = record {
      files = ap (λ s. s.files) (sym c.self.view_is);
      kinds = ap (λ s. s.kinds) (sym c.self.view_is);
    } in
    let placed : IsHeldAt inside.outputs.items c.args.name.now c.in-Some.place c.index-written.result.now = record {
      found = sym (rw c.as_slice.ensures.value at c.in-Some.ensures);
      here = c.index-written.ensures;
    } in
    append_to_full c.args.self.now inside.outputs.items (files_from inside.inputs.items) shows c.args.name.now c.in-Some.place c.index-written.result.now placed c.args.piece.now
    (rw (← c.self.view_is, ← c.bytes.ensures.bytes) c.if-room_left-eq0.true)

pub returns-then-room_left-eq0-clause-answer : goal.returns-then-room_left-eq0-clause-answer
returns-then-room_left-eq0-clause-answer c = sym (to_full c).0

pub returns-then-room_left-eq0-clause-after : goal.returns-then-room_left-eq0-clause-after
returns-then-room_left-eq0-clause-after c = rw ((to_full c).1, ← c.self.view_is) (grind (arith, common_steps))

-- the output takes some
taken : (c : goal.After-self-1) → Appended c.args.self.now c.args.name.now c.args.piece.now (files_from c.self.inside.inputs.items) c.min-taken.result (set c.self.inside.outputs.items c.in-Some.place c.add.new.self)
taken c =
    let inside = c.self.inside in
    let shows : Shows c.args.self.now inside.outputs.items (files_from inside.inputs.items) = record {
      files = ap (λ s. s.files) (sym c.self.view_is);
      kinds = ap (λ s. s.kinds) (sym c.self.view_is);
    } in
    let found = sym (rw c.as_slice.ensures.value at c.in-Some.ensures) in
    let read : IsHeldAt inside.outputs.items c.args.name.now c.in-Some.place c.index-written.result.now = record { found = found; here = c.index-written.ensures } in
    let placed : IsHeldAt inside.outputs.items c.args.name.now c.in-Some.place c.index_mut-slot.result.now = record { found = found; here = search rules } in
    let same = same_output inside.outputs.items c.args.name.now c.in-Some.place c.index-written.result.now c.index_mut-slot.result.now read placed in
    let listed : fails_now c.args.self.now ≡ false = rw (← c.self.view_is) (sym c.if-next_fails.ensures.listed) in
    rw c.add.ensures (append_some c.args.self.now inside.outputs.items (files_from inside.inputs.items) shows c.args.name.now c.in-Some.place c.index_mut-slot.result.now placed c.args.piece.now
    c.min-taken.result listed (rw (← c.self.view_is, ← same, ← c.bytes.ensures.bytes) (grind arith)) (omega arith))

pub invariant_of-self-2 : goal.invariant_of-self-2
invariant_of-self-2 c =
    let outputs = c.self.inside.outputs.items in
    let inputs = files_from c.self.inside.inputs.items in
    let held = c.index_mut-slot.result.now in
    let placed : IsHeldAt outputs c.args.name.now c.in-Some.place held = record {
      found = sym (rw c.as_slice.ensures.value at c.in-Some.ensures);
      here = search rules;
    } in
    let room = room_found outputs inputs c.args.name.now c.in-Some.place held placed c.self.inside.room c.self.invariant.outputs_room in
    record {
      two = c.self.invariant.two;
      capacity = c.self.invariant.capacity;
      apart = ap len (rw c.add.ensures (kinds_appended outputs inputs c.args.name.now c.in-Some.place held placed _)) ∙ c.self.invariant.apart;
      outputs_room = All-set (λ h. h.room ≡ c.self.inside.room) outputs c.in-Some.place c.add.new.self
          (ap (λ h. h.room) c.add.ensures ∙ room) c.self.invariant.outputs_room;
      spare_room = c.self.invariant.spare_room;
      some = c.self.invariant.some;
    }

pub returns-clause-answer : goal.returns-clause-answer
returns-clause-answer c = sym (taken c).0

pub returns-clause-after : goal.returns-clause-after
returns-clause-after c = rw ((taken c).1, ← c.self.view_is) (grind (arith, common_steps))
