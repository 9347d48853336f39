use Rattle.std.proofs.Common.{◌≡◌, ap, ◌∙◌, arith}
use Rattle.lk_tables.specs.declared.classes.Class.{Class}
use Rattle.output_sections.specs.ItemViews.{items_view}
use Rattle.output_sections.specs.Order.{lists_view, order_of, orders_between}
use Rattle.output_sections.proofs.OrderParts.{first_part, part_more}
use Rattle.output_sections.proofs.order.lists_of.Goals as goal

pub class_rows-requires-clause-wanted : goal.class_rows-requires-clause-wanted
class_rows-requires-clause-wanted c = c.is_present.ensures ∙ c.requires.present c.class_at-class.result

pub loop-place-init : goal.loop-place-init
loop-place-init c =
    let items = items_view c.args.items.now in
    (omega arith, ap lists_view c.in_ok-lists.ensures.items ∙ first_part items c.args.piece.start)

pub loop-place-preserved : goal.loop-place-preserved
loop-place-preserved c =
    let items = items_view c.args.items.now in
    let low = c.loop-place.invariant.0 in (
      omega (arith, low),
      part_more items c.args.piece.start c.loop-place.place c.loop-place.lists.items c.push.new.self.items c.in_ok-list.list low c.loop-place.invariant.1 c.in_ok-push.ensures.items
          (c.in_ok-list.ensures ∙ ap (λ (k : Class). order_of k items) c.class_at-class.ensures),
    )

pub returns : goal.returns
returns c =
    let e : c.loop-place.place ≡ c.args.piece.end = omega (arith, c.loop-place.invariant.0) in
    c.loop-place.invariant.1 ∙ ap (orders_between (items_view c.args.items.now) c.args.piece.start) e
