use Rattle.std.proofs.Common.{◌≡◌, ◌∙◌, length, flat_map, sym, ap, subst, List, arith}
use Rattle.std.specs.List.{range_with_len}
use Rattle.std.specs.List.Sorted.{IsStrictlyIncreasing}
use Rattle.std.proofs.lemmas.List.{length-map}
use Rattle.lk_base.proofs.Loops.{flat_step}
use Rattle.lk_tables.specs.BindingView.{binding_view}
use Rattle.lk_tables.specs.Files.{section_total}
use Rattle.lk_tables.specs.TablesView.{files_of}
use Rattle.link_sections.specs.FoldItems.{FoldItem, item_view, item_views, sections_of}
use Rattle.link_sections.specs.PoolViews.{merged_views}
use Rattle.sec_graph.specs.Foldable as spec
use Rattle.sec_graph.specs.Foldable.{items}
use Rattle.sec_graph.proofs.FoldOrder.{items_rise, items_few}
use Rattle.sec_graph.proofs.fold_lists.items.Goals as goal

pub overflow_cast-section : goal.overflow_cast-section
overflow_cast-section c = omega (arith, c.prove_few.ensures.section_count_is, c.section_count-section-end.ensures, c.loop-section-test.true)

pub loop-section-preserved : goal.loop-section-preserved
loop-section-preserved c =
    flat_step (spec.item_if (files_of c.args.tables.now) (binding_view c.args.binding.now) (merged_views c.args.pools.now) c.args.kept.now c.args.barred.now) c.loop-section.section
    (item_views c.loop-section.list.items) (item_views c.push_item.new.list.items) c.loop-section.invariant c.in_ok-push_item.ensures

pub returns-clause-order : goal.returns-clause-order
unfolding items
returns-clause-order c =
    let files = files_of c.args.tables.now in
    let b = binding_view c.args.binding.now in
    let merged = merged_views c.args.pools.now in
    let n : c.loop-section.section ≡ section_total files = omega (arith, c.section_count-section-end.ensures) in
    let all : item_views c.loop-section.list.items ≡ spec.items files b merged c.args.kept.now c.args.barred.now = c.loop-section.invariant ∙ ap (λ k. flat_map (spec.item_if files b merged c.args.kept.now c.args.barred.now) (range_with_len 0 k)) n in
    let P : List FoldItem → Type 0 = λ l. IsStrictlyIncreasing (sections_of l) in
    subst P (sym all) (items_rise files b merged c.args.kept.now c.args.barred.now)

pub returns-clause-few : goal.returns-clause-few
unfolding items
returns-clause-few c =
    let files = files_of c.args.tables.now in
    let b = binding_view c.args.binding.now in
    let merged = merged_views c.args.pools.now in
    let n : c.loop-section.section ≡ section_total files = omega (arith, c.section_count-section-end.ensures) in
    let all : item_views c.loop-section.list.items ≡ spec.items files b merged c.args.kept.now c.args.barred.now = c.loop-section.invariant ∙ ap (λ k. flat_map (spec.item_if files b merged c.args.kept.now c.args.barred.now) (range_with_len 0 k)) n in
    omega (arith, items_few files b merged c.args.kept.now c.args.barred.now, sym (length-map c.loop-section.list.items item_view) ∙ ap length all, c.prove_few.ensures.section_count_is)
