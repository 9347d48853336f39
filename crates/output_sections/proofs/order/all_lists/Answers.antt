use Rattle.std.proofs.Common.{◌≡◌, ℕ, List, arith}
use Rattle.std.specs.Global.{Vec}
use Rattle.work_split.proofs.RunsBeside.{joined_beside}
use Rattle.work_split.proofs.Tiling.{tiles_within}
use Rattle.output_sections.specs.declared.rows.Row.{Row}
use Rattle.output_sections.specs.ItemViews.{items_view}
use Rattle.output_sections.specs.Order.{lists_view, orders_between}
use Rattle.output_sections.proofs.OrderParts.{parts_beside}
use Rattle.output_sections.proofs.order.all_lists.Goals as goal

pub over_shares-found-requires-clause-accepts : goal.over_shares-found-requires-clause-accepts
over_shares-found-requires-clause-accepts g c = λ κs within w p lt at.
    let own = tiles_within 0 6 c.args.pieces.now w p c.requires.tiles lt at in
    let some = own.some in
    (omega (arith, some), (own.end_in, (c.requires.few, c.requires.present)))

pub returns-in-Ok : goal.returns-in-Ok
returns-in-Ok g c =
    let items = items_view c.args.items.now in
    let Is : ℕ → ℕ → List (Vec Row) → Type 0 = λ a b lists. lists_view lists ≡ orders_between items a b in
    joined_beside Is (parts_beside items) _ 6 c.args.pieces.now c.over_shares-found.result
    c.in-Ok.lists c.over_shares-found.ensures (λ p s h. h.1) c.requires.tiles c.in-Ok.is
