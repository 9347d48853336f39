use Rattle.std.proofs.Common.{◌≡◌, ℕ, ◌-◌, List, length, map, flat_map, ◌∙◌, arith}
use Rattle.std.specs.List.{range_with_len}
use Rattle.link_sections.specs.FoldItems.{item_views}
use Rattle.work_split.proofs.RunsBeside.{joined_beside}
use Rattle.work_split.proofs.Tiling.{tiles_within}
use Rattle.icf_part.specs.Chosen.{views_at}
use Rattle.icf_part.specs.Folding.{item_at}
use Rattle.icf_part.specs.Signatures.{places}
use Rattle.work_split.proofs.ListedRuns.{runs_beside}
use Rattle.icf_part.proofs.ChosenItems.{items_wide}
use Rattle.icf_part.proofs.PartSteps.{places_all}
use Rattle.icf_part.proofs.places.all_places.Goals as goal

pub over_shares-found-requires-clause-accepts : goal.over_shares-found-requires-clause-accepts
over_shares-found-requires-clause-accepts g c = λ κs within w p lt at.
    let own = tiles_within 0 (length c.args.chosen.now) c.args.pieces.now w p c.requires.tiles lt at in
    let some = own.some in
    (c.requires.order, (c.requires.few, (c.requires.chosen, (omega (arith, some), own.end_in))))

pub returns-in_ok-rows-in-Ok : goal.returns-in_ok-rows-in-Ok
returns-in_ok-rows-in-Ok g c =
    let secs = c.args.sections.now in
    let views = views_at c.args.items.now c.args.chosen.now in
    let n = length c.args.chosen.now in
    let f : ℕ → List ℕ = λ a. places secs (item_at views a) in
    let Is : ℕ → ℕ → List (List (List ℕ)) → Type 0 = λ a b parts. flat_map (λ part. part) parts ≡ map f (range_with_len a (b - a)) in
    let found : flat_map (λ part. part) c.in-Ok.parts.items ≡ map f (range_with_len 0 (n - 0)) =
    joined_beside Is (runs_beside f) _ n c.args.pieces.now c.over_shares-found.result c.in-Ok.parts c.over_shares-found.ensures (λ p s h. h.1) c.requires.tiles c.in-Ok.is in
    places_all secs views n c.in_ok-rows-in-Ok.rows (items_wide (item_views c.args.items.now) c.args.chosen.now) c.requires.sections (c.in_ok-rows-in-Ok.ensures ∙ found)
