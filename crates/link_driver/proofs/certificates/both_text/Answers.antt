use Rattle.std.proofs.Common.{◌≡◌, ◌<◌, ◌∙◌, All, List, length, ap, sym, subst, arith}
use Rattle.std.specs.List.Sorted.{IsStrictlyIncreasing}
use Rattle.lk_tables.specs.BindingView.{binding_view}
use Rattle.lk_tables.specs.Files.{section_total}
use Rattle.lk_tables.specs.TablesView.{files_of}
use Rattle.link_sections.specs.declared.fold_items.FoldItem.{FoldItem as LentItem}
use Rattle.link_sections.specs.FoldItems.{FoldItem, item_views, sections_of}
use Rattle.link_sections.specs.Merging.{pools_of}
use Rattle.link_sections.specs.PoolViews.{merged_views}
use Rattle.sec_graph.specs.Foldable.{items}
use Rattle.link_passes.specs.Contents.{names_of}
use Rattle.link_driver.proofs.Certifying.{both_are, first_unknown, items_are, items_within, second_unknown}
use Rattle.link_driver.proofs.FewPieces.{kept_written}
use Rattle.link_passes.proofs.Handing.{on_each}
use Rattle.link_driver.proofs.certificates.both_text.Goals as goal

pub returns-in_default : goal.returns-in_default
returns-in_default g c =
    on_each c.name_line.result (λ text is.
    is ∙ first_unknown (names_of c.args.names.now) (files_of c.args.tables.now) (binding_view c.args.binding.now) c.args.kept.now c.args.barred.now c.args.one.now c.args.two.now
    (sym c.in_default.is ∙ c.in_ok-first.ensures.section)) c.name_line.ensures

pub returns-in_default-second : goal.returns-in_default-second
returns-in_default-second g c =
    on_each c.name_line-in_default-second.result (λ text is.
    is ∙ second_unknown (names_of c.args.names.now) (files_of c.args.tables.now) (binding_view c.args.binding.now) c.args.kept.now c.args.barred.now c.args.one.now c.args.two.now
    c.in-Some.s (sym c.in-Some.is ∙ c.in_ok-first.ensures.section) (sym c.in_default-second.is ∙ c.in_ok-second.ensures.section)) c.name_line-in_default-second.ensures

pub merge-requires-clause-written : goal.merge-requires-clause-written
merge-requires-clause-written g c κs bound = kept_written (files_of c.args.tables.now) (binding_view c.args.binding.now) c.args.kept.now c.requires.stay

pub apart_lines-requires-clause-few : goal.apart_lines-requires-clause-few
apart_lines-requires-clause-few g c = λ κs bound.
    let few = c.in_ok-items.ensures.few in
    omega (arith, few, ap length c.as_slice.ensures.value)

pub apart_lines-requires-clause-order : goal.apart_lines-requires-clause-order
apart_lines-requires-clause-order g c = λ κs bound.
    let P : List LentItem → Type 0 = λ l. IsStrictlyIncreasing (sections_of (item_views l)) in
    subst P (sym c.as_slice.ensures.value) c.in_ok-items.ensures.order

pub apart_lines-requires-clause-within : goal.apart_lines-requires-clause-within
apart_lines-requires-clause-within g c = λ κs bound.
    let files = files_of c.args.tables.now in
    let b = binding_view c.args.binding.now in
    let merged = merged_views c.in_ok-pools.pools in
    let found : item_views c.as_slice.result.now ≡ items files b merged c.args.kept.now c.args.barred.now = ap item_views c.as_slice.ensures.value ∙ c.in_ok-items.ensures.items in
    let P : List FoldItem → Type 0 = λ l. All (λ n. n < section_total files) (sections_of l) in
    subst P (sym found) (items_within files b merged c.args.kept.now c.args.barred.now)

pub returns : goal.returns
returns g c =
    let names = names_of c.args.names.now in
    let files = files_of c.args.tables.now in
    let b = binding_view c.args.binding.now in
    let kept = c.args.kept.now in
    let barred = c.args.barred.now in
    let one = c.args.one.now in
    let two = c.args.two.now in
    let lent = item_views c.as_slice.result.now in
    let found : lent ≡ items files b (merged_views c.in_ok-pools.pools) kept barred = ap item_views c.as_slice.ensures.value ∙ c.in_ok-items.ensures.items in
    let are : lent ≡ items files b (pools_of files kept).merged kept barred =
    items_are names files b kept barred one two c.in_ok-pools.pools lent c.in_ok-pools.ensures.value found in
    on_each c.apart_lines.result (λ text is.
    is ∙ both_are names files b kept barred one two lent c.in-Some.s c.in-Some-second.t are (sym c.in-Some.is ∙ c.in_ok-first.ensures.section)
    (sym c.in-Some-second.is ∙ c.in_ok-second.ensures.section)) c.apart_lines.ensures
