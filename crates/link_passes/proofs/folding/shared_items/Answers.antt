use Rattle.std.proofs.Common.{◌<◌, All, List, ℕ, length, map, sym, ap, ◌∙◌, subst, arith}
use Rattle.std.proofs.lemmas.List.{length-map}
use Rattle.std.specs.Borrow.{Bor}
use Rattle.lk_tables.specs.BindingView.{binding_view}
use Rattle.lk_tables.specs.TablesView.{files_of}
use Rattle.link_sections.specs.FoldItems.{item_view, item_views}
use Rattle.link_sections.specs.PoolViews.{merged_views}
use Rattle.name_numbers.specs.Texts.{lent_texts, text_numbers}
use Rattle.icf_part.specs.Chosen.{AreShared}
use Rattle.sec_graph.specs.Foldable.{contents_at, item_there}
use Rattle.icf_part.proofs.NumberedRows.{numbers_wide}
use Rattle.link_passes.proofs.FewItems.{shared_few}
use Rattle.link_passes.proofs.Sharing.{places_inside, sharers_of, sharers_rise}
use Rattle.link_passes.proofs.folding.shared_items.Goals as goal

pub shared_texts-requires-after_bounds : goal.shared_texts-requires-after_bounds
shared_texts-requires-after_bounds g c κs within =
    let few = c.requires.few in
    omega (
      arith,
      few,
      ap length c.in_ok-texts.ensures,
      length-map c.in_ok-texts.texts.items (λ (text : Bor (List ℕ)). text.now),
      length-map c.args.sections.now (contents_at (files_of c.args.tables.now)),
    )

pub items_at-requires-clause-places : goal.items_at-requires-clause-places
items_at-requires-clause-places g c =
    let P : List ℕ → Type 0 = All (λ k. k < length c.args.sections.now) in
    subst P (sym c.as_slice.ensures.value)
    (places_inside (files_of c.args.tables.now) (binding_view c.args.binding.now) (merged_views c.args.pools.now) c.args.sections.now c.in_ok-places.places.items
    (lent_texts c.in_ok-texts.texts.items) c.in_ok-texts.ensures c.in_ok-places.ensures)

pub returns-clause-sharers : goal.returns-clause-sharers
returns-clause-sharers g c =
    let there = item_there (files_of c.args.tables.now) (binding_view c.args.binding.now) (merged_views c.args.pools.now) c.args.sections.now in
    sharers_of (files_of c.args.tables.now) (binding_view c.args.binding.now) (merged_views c.args.pools.now) c.args.sections.now c.in_ok-places.places.items
    (lent_texts c.in_ok-texts.texts.items) c.in_ok-texts.ensures c.in_ok-places.ensures (item_views c.in_ok-items.items.items)
    (c.in_ok-items.ensures ∙ ap (map there) c.as_slice.ensures.value)

pub returns-clause-order : goal.returns-clause-order
returns-clause-order g c =
    let there = item_there (files_of c.args.tables.now) (binding_view c.args.binding.now) (merged_views c.args.pools.now) c.args.sections.now in
    sharers_rise (files_of c.args.tables.now) (binding_view c.args.binding.now) (merged_views c.args.pools.now) c.args.sections.now c.in_ok-places.places.items
    (lent_texts c.in_ok-texts.texts.items) c.in_ok-texts.ensures c.in_ok-places.ensures (item_views c.in_ok-items.items.items)
    (c.in_ok-items.ensures ∙ ap (map there) c.as_slice.ensures.value) c.requires.order

pub returns-clause-few : goal.returns-clause-few
returns-clause-few g c =
    let there = item_there (files_of c.args.tables.now) (binding_view c.args.binding.now) (merged_views c.args.pools.now) c.args.sections.now in
    let texts = lent_texts c.in_ok-texts.texts.items in
    let few = c.requires.few in
    omega (
      arith,
      few,
      length-map c.in_ok-items.items.items item_view,
      ap length (c.in_ok-items.ensures ∙ ap (map there) c.as_slice.ensures.value),
      length-map c.in_ok-places.places.items there,
      shared_few (text_numbers texts) c.in_ok-places.places.items c.in_ok-places.ensures,
      numbers_wide texts,
      ap length c.in_ok-texts.ensures,
      length-map c.args.sections.now (contents_at (files_of c.args.tables.now)),
    )
