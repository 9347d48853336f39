use Rattle.std.proofs.Common.{sym, ◌∙◌, ap, Some}
use Rattle.std.specs.FinMap.{empty, get-empty}
use Rattle.std.specs.Ordering.{nat_cmp}
use Rattle.std.specs.Cmp.Lexicographic.{slice_cmp}
use Rattle.lk_depot.specs.Overlays.{files_from, input_name, input_bytes}
use Rattle.lk_depot.proofs.Overlaying.{get_overlaid_found, get_overlaid_none}
use Rattle.lk_depot.proofs.mem_depot.MemDepot.bytes.Goals as goal

pub returns-in-Some : goal.returns-in-Some
returns-in-Some c =
    let placed = rw c.as_slice.ensures.value at c.in-Some.ensures in
    let found = get_overlaid_found (λ held. held.name) (λ held. held.bytes) c.self.inside.outputs.items
    (files_from c.self.inside.inputs.items) c.args.name.now c.in-Some.place c.index-slot.result.now (sym placed) in
    rw (← c.self.view_is) (sym (found ∙ ap Some (ap (λ held. held.bytes) (sym c.index-slot.ensures) ∙ sym c.bytes.ensures.bytes)))

pub returns-in-Some-input_place : goal.returns-in-Some-input_place
returns-in-Some-input_place c =
    let none = rw c.as_slice.ensures.value at c.in_default.ensures in
    let below = get_overlaid_none (λ held. held.name) (λ held. held.bytes) c.self.inside.outputs.items
    (files_from c.self.inside.inputs.items) c.args.name.now (sym none) in
    let placed = rw c.as_slice-2.ensures.value at c.in-Some-input_place.ensures in
    let found = get_overlaid_found input_name input_bytes c.self.inside.inputs.items empty c.args.name.now
    c.in-Some-input_place.place c.index.result.now (sym placed) in
    rw (← c.self.view_is) (sym (below ∙ found
    ∙ ap Some (ap input_bytes (sym c.index.ensures) ∙ sym c.as_slice-in-Some-input_place.ensures.value)))

pub returns : goal.returns
returns c =
    let none = rw c.as_slice.ensures.value at c.in_default.ensures in
    let below = get_overlaid_none (λ held. held.name) (λ held. held.bytes) c.self.inside.outputs.items
    (files_from c.self.inside.inputs.items) c.args.name.now (sym none) in
    let no_input = rw c.as_slice-2.ensures.value at c.in_default-input_place.ensures in
    let found = get_overlaid_none input_name input_bytes c.self.inside.inputs.items empty c.args.name.now (sym no_input) in
    rw (← c.self.view_is) (sym (below ∙ found ∙ get-empty (slice_cmp nat_cmp) c.args.name.now))
