-- Items whose sections' numbers are their places.
use Rattle.std.proofs.Common.{◌≡◌, ℕ, ◌+◌, List, [], ◌∷◌, ◌++◌, length, map, refl, sym, ap, ◌∙◌, subst, arith}
use Rattle.std.specs.List.{range_with_len}
use Rattle.std.specs.List.Sorted.{IsStrictlyIncreasing}
use Rattle.std.proofs.lemmas.List.{map-append}
use Rattle.std.proofs.lemmas.List.FromFn.{get_or-range_with_len, length-range_with_len}
use Rattle.lk_base.proofs.Loops.{range_more}
use Rattle.link_sections.specs.declared.fold_items.FoldItem.{FoldItem as LentItem}
use Rattle.link_sections.specs.FoldItems.{item_view, item_views, section_of, sections_of}

range_rises : (n : ℕ) → IsStrictlyIncreasing (range_with_len 0 n)
range_rises n = λ k lt.
    let long = length-range_with_len 0 n in
    omega (arith, get_or-range_with_len 0 n k 0 (omega arith), get_or-range_with_len 0 n (k + 1) 0 (omega arith))

pub numbered_rise : (items : List LentItem) → sections_of (item_views items) ≡ range_with_len 0 (length items) → IsStrictlyIncreasing (sections_of (item_views items))
numbered_rise items is = let P : List ℕ → Type 0 = IsStrictlyIncreasing in subst P (sym is) (range_rises (length items))

pub numbered_first : sections_of (item_views []) ≡ range_with_len 0 0
unfolding sections_of
numbered_first = refl

pub numbered_more : (old new : List LentItem) (item : LentItem) (n : ℕ) → sections_of (item_views old) ≡ range_with_len 0 (length old) → new ≡ old ++ item ∷ [] →
    length new ≡ n → length new ≡ length old + 1 → item.section ≡ length old → sections_of (item_views new) ≡ range_with_len 0 n
unfolding sections_of
numbered_more old new item n is push all more own =
    ap (λ l. map section_of (item_views l)) push
    ∙ ap (map section_of) (map-append item_view old (item ∷ [])) ∙ map-append section_of (item_views old) (item_view item ∷ [])
    ∙ ap (λ l. l ++ item.section ∷ []) is ∙ ap (λ k. range_with_len 0 (length old) ++ k ∷ []) own
    ∙ sym (range_more (length old)) ∙ ap (range_with_len 0) (sym more ∙ all)

-- so many of them
pub record AreNumbered (items : List LentItem) (n : ℕ) : Type 0 where
  pub count : length items ≡ n
  pub numbered : sections_of (item_views items) ≡ range_with_len 0 (length items)
