-- Items as code holds them: their sections in order, and the view of the one at a place.
use Rattle.std.proofs.Common.{◌≡◌, ℕ, ◌<◌, List, [], ◌∷◌, length, map, get_or, refl, sym, ap, ◌∙◌, arith}
use Rattle.std.specs.List.Sorted.{IsNonDecreasingBy, IsStrictlyIncreasing}
use Rattle.std.proofs.lemmas.List.{get_or-map, length-map}
use Rattle.link_sections.specs.declared.fold_items.FoldItem.{FoldItem as LentItem}
use Rattle.link_sections.specs.FoldItems.{item_view, item_views, section_of, sections_of}
use Rattle.icf_part.specs.Folding.{item_at, no_item}
use Rattle.icf_part.proofs.SectionPlaces.{rising}

abbrev pub number : LentItem → ℕ
number i = i.section

mapped : (items : List LentItem) → map section_of (map item_view items) ≡ map number items
mapped [] = refl
mapped (i ∷ items) = ap (λ l. i.section ∷ l) (mapped items)

module _ (items : List LentItem) where
  pub sections_are : sections_of (item_views items) ≡ map number items
  unfolding sections_of
  sections_are = mapped items

  pub sections_wide : length (sections_of (item_views items)) ≡ length items
  sections_wide = ap length sections_are ∙ length-map items number

  pub read_at : (k : ℕ) (d : LentItem) → k < length items → get_or (sections_of (item_views items)) k 0 ≡ number (get_or items k d)
  read_at k d less = ap (λ l. get_or l k 0) sections_are ∙ get_or-map number items k d 0 less

  pub ordered : IsStrictlyIncreasing (sections_of (item_views items)) → IsNonDecreasingBy number items
  ordered order = λ i j d le less.
      let up = rising (sections_of (item_views items)) order i j le (omega (arith, less, sections_wide)) in
      omega (arith, up, read_at i d (omega arith), read_at j d less)

  -- the item at a place
  pub view_at : (a : ℕ) (x : LentItem) → a < length items → x ≡ get_or items a x → item_at (item_views items) a ≡ item_view x
  view_at a x less is = get_or-map item_view items a x no_item less ∙ ap item_view (sym is)

-- what is less by the items is less by their sections
pub section_below : (items : List LentItem) (section n : ℕ) → ((k : ℕ) (d : LentItem) → k < n → number (get_or items k d) < section) →
    (k : ℕ) → k < n → k < length items → get_or (sections_of (item_views items)) k 0 < section
section_below [] section n before k low less = absurd (omega arith)
section_below (i ∷ items) section n before k low less = omega (arith, before k i low, read_at (i ∷ items) k i less)
