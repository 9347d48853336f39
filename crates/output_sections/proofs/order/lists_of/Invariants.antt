use Rattle.std.proofs.Common.{◌≡◌, ◌≤◌}
use Rattle.output_sections.specs.ItemViews.{items_view}
use Rattle.output_sections.specs.Order.{lists_view, orders_between}
use Rattle.output_sections.proofs.order.lists_of.Given as goal

abbrev pub invariant-loop-place : goal.invariant-loop-place
invariant-loop-place l = (l.fn.piece.start ≤ l.place) × (lists_view l.lists.items ≡ orders_between (items_view l.items) l.fn.piece.start l.place)
