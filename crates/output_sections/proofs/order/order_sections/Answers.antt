use Rattle.std.proofs.Common.{ap, sym, subst, ◌∙◌}
use Rattle.std.specs.List.{All}
use Rattle.lk_tables.specs.BindingView.{binding_view}
use Rattle.lk_tables.specs.TablesView.{files_of}
use Rattle.link_sections.specs.GotEntries.{word_count}
use Rattle.link_sections.specs.GotView.{entries_of}
use Rattle.output_sections.specs.ItemViews.{items_view}
use Rattle.output_sections.specs.Order.{IsKnown, Orders, members_in, orders_of}
use Rattle.output_sections.proofs.HeadLaw.{heads_are}
use Rattle.output_sections.proofs.ItemFacts.{members_known}
use Rattle.output_sections.proofs.order.order_sections.Goals as goal

pub returns-clause-known : goal.returns-clause-known
returns-clause-known g c =
    let files = files_of c.args.tables.now in
    let b = binding_view c.args.binding.now in
    let P : Orders → Type 0 = λ o. All (IsKnown files b) (members_in o) in
    subst P (sym (c.in_ok-rows.ensures ∙ ap (λ l. orders_of (items_view l)) c.deref.ensures.value ∙ ap orders_of c.in_ok-items.ensures.items)) (members_known files b c.args.pools.now.pools.items (word_count (entries_of c.args.got.now)) c.args.leaders.now c.requires.leaders)

pub returns-clause-heads : goal.returns-clause-heads
returns-clause-heads g c = heads_are (items_view c.in_ok-items.items.items)
