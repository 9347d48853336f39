use Rattle.std.proofs.Common.{◌∷◌, ◌++◌, [], map, ap, ◌∙◌, arith}
use Rattle.std.proofs.lemmas.List.{map-append}
use Rattle.lk_base.proofs.Loops.{mapped_all, mapped_at}
use Rattle.lk_tables.specs.BindingView.{binding_view}
use Rattle.lk_tables.specs.TablesView.{files_of}
use Rattle.link_sections.specs.FoldItems.{FoldItem, item_view, item_views}
use Rattle.link_sections.specs.PoolViews.{merged_views}
use Rattle.sec_graph.specs.Foldable.{item_there}
use Rattle.sec_graph.proofs.fold_lists.items_at.Goals as goal

pub loop-i-preserved : goal.loop-i-preserved
loop-i-preserved c =
    let item = c.in_ok-item.item in
    mapped_at (item_there (files_of c.args.tables.now) (binding_view c.args.binding.now) (merged_views c.args.pools.now) c.args.sections.now) c.args.places.now c.loop-i.i 0
    (item_views c.loop-i.list.items) (item_views c.push.new.self.items) c.loop-i-test.true c.loop-i.invariant
    (ap item_views c.in_ok-push.ensures.items ∙ map-append item_view c.loop-i.list.items (item ∷ []) ∙ ap (λ (i : FoldItem). item_views c.loop-i.list.items ++ i ∷ []) c.in_ok-item.ensures)

pub returns : goal.returns
returns c =
    mapped_all (item_there (files_of c.args.tables.now) (binding_view c.args.binding.now) (merged_views c.args.pools.now) c.args.sections.now) c.args.places.now c.loop-i.i _ (omega arith) c.loop-i.invariant
