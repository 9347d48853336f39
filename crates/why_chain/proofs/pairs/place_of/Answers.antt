use Rattle.std.proofs.Common.{◌≡◌, ◌∙◌, ℕ, ◌<◌, ◌≤◌, true, false, length, get_or, sym, ap, ltb, ltb-true, ltb-false, inl, inr, arith, rules}
use Rattle.std.specs.List.Sorted.{IsPartitionPoint}
use Rattle.std.proofs.lemmas.Bool.{cases_lt}
use Rattle.std.proofs.lemmas.List.Sorted.{IsPartitionPoint-from_clause, IsPartitionedBy-ltb}
use Rattle.link_sections.specs.declared.fold_items.FoldItem.{FoldItem as LentItem}
use Rattle.link_sections.specs.FoldItems.{item_views, sections_of}
use Rattle.icf_part.proofs.SectionPlaces.{no_place, placed, rising}
use Rattle.why_chain.proofs.Placing.{number, ordered, read_at, section_below, sections_wide}
use Rattle.why_chain.proofs.pairs.place_of.Goals as goal
use Rattle.why_chain.proofs.pairs.place_of.Goals.{After-partition_point-place}

point : (c : After-partition_point-place) →
    IsPartitionPoint (λ (x : LentItem). ltb x.section c.args.section ≡ true) (λ (x : LentItem). ltb x.section c.args.section ≡ false) c.args.items.now c.partition_point-place.result
point c =
    let parted = IsPartitionedBy-ltb number c.args.items.now c.args.section (ordered c.args.items.now c.requires) in
    IsPartitionPoint-from_clause (λ (x : LentItem). ltb x.section c.args.section) _ _ c.partition_point-place.ensures.partitioned parted (λ a r q k. search rules)

-- the sections before the place are less
before : (c : After-partition_point-place) (k : ℕ) → k < c.partition_point-place.result → k < length c.args.items.now → get_or (sections_of (item_views c.args.items.now)) k 0 < c.args.section
before c = section_below c.args.items.now c.args.section c.partition_point-place.result (λ k d low. ltb-true _ _ ((point c).0 k d (omega arith) low))

pub returns-in_default-clause-place : goal.returns-in_default-clause-place
returns-in_default-clause-place c =
    let p = (goal.at.returns-in_default-clause-place c).After-partition_point-place in
    let items = c.args.items.now in
    let past : length items ≤ c.partition_point-place.result = search rules in
    sym (no_place (sections_of (item_views items)) c.args.section (λ k lt same.
    let less : k < length items = omega (arith, lt, sections_wide items) in
    omega (arith, before p k (omega arith) less, same)))

pub returns-then-item-section-clause-place : goal.returns-then-item-section-clause-place
returns-then-item-section-clause-place c =
    let p = (goal.at.returns-then-item-section-clause-place c).After-partition_point-place in
    let items = c.args.items.now in
    let sections = sections_of (item_views items) in
    let place = c.partition_point-place.result in
    let item = c.in-Some.item.now in
    let less : place < length items = search rules in
    let own = ap number c.in-Some.ensures.lookup.1 in
    let low = ltb-false _ _ ((point p).1 place item (omega arith) less) in
    let read = read_at items place item less in
    sym (no_place sections c.args.section (λ k lt same. elim (cases_lt k place) [
      | inl under ↦ omega (arith, before p k under (omega (arith, lt, sections_wide items)), same)
      | inr most ↦
          let up = rising sections c.requires place k most lt in
          let other = c.if-item-section.true in
          omega (arith, up, read, low, own, same, other)
    ]))

pub returns-clause-place : goal.returns-clause-place
returns-clause-place c =
    let items = c.args.items.now in
    let place = c.partition_point-place.result in
    let item = c.in-Some.item.now in
    let less : place < length items = search rules in
    let own = ap number c.in-Some.ensures.lookup.1 in
    sym (placed (sections_of (item_views items)) c.requires place c.args.section (omega (arith, less, sections_wide items)) (read_at items place item less ∙ sym own ∙ c.if-item-section.false))
