use Rattle.std.proofs.Common.{sym, ◌∙◌, ap, Some}
use Rattle.std.specs.FinMap.{empty, get-empty}
use Rattle.std.specs.Ordering.{nat_cmp}
use Rattle.std.specs.Cmp.Lexicographic.{slice_cmp}
use Rattle.lk_depot.proofs.Overlaying.{get_overlaid_found, get_overlaid_none}
use Rattle.lk_depot.proofs.mem_depot.MemDepot.kind.Goals as goal

pub returns-in-Some : goal.returns-in-Some
returns-in-Some c =
    let placed = rw c.as_slice.ensures.value at c.in-Some.ensures in
    let found = get_overlaid_found (λ held. held.name) (λ held. held.kind) c.self.inside.outputs.items empty c.args.name.now c.in-Some.place c.index-slot.result.now (sym placed) in
    rw (← c.self.view_is) (sym (found ∙ ap Some (ap (λ held. held.kind) (sym c.index-slot.ensures) ∙ sym c.kind.ensures)))

pub returns : goal.returns
returns c =
    let placed = rw c.as_slice.ensures.value at c.in_default.ensures in
    let found = get_overlaid_none (λ held. held.name) (λ held. held.kind) c.self.inside.outputs.items empty c.args.name.now (sym placed) in
    rw (← c.self.view_is) (sym (found ∙ get-empty (slice_cmp nat_cmp) c.args.name.now))
