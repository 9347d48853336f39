-- All of folding, from that of the items whose contents another has.
use Rattle.std.proofs.Common.{◌≡◌, ℕ, ◌+◌, ◌<◌, ◌≤◌, All, List, length, map, get_or, sym, ◌∙◌, subst, arith}
use Rattle.std.specs.List.Sorted.{IsStrictlyIncreasing}
use Rattle.std.proofs.lemmas.List.{length-map}
use Rattle.link_sections.specs.declared.fold_items.FoldItem.{FoldItem as LentItem}
use Rattle.link_sections.specs.FoldItems.{item_view, item_views, sections_of}
use Rattle.name_numbers.specs.Texts.{text_numbers}
use Rattle.icf_part.specs.Chosen.{AreContents, AreShared, AreSpread, views_at}
use Rattle.icf_part.specs.Counts.{key_count, leader_count}
use Rattle.icf_part.specs.Folding.{AreLeaders, HoldsAll, IsCongruence, classes}
use Rattle.icf_part.specs.Signatures.{bytes_of}
use Rattle.icf_part.proofs.NumberedRows.{numbers_within}
use Rattle.icf_part.proofs.SharedItems.{chosen_from, contents_from}
use Rattle.icf_part.proofs.Spreading.{all_folded, chosen_most, chosen_order, inside, keys_counted_all, leaders_counted, rises}
use Rattle.icf_part.proofs.Whole.{IsFolded, all_numbers, folded_by}

pub views_wide : (items : List LentItem) → length (item_views items) ≡ length items
views_wide items = length-map items item_view

-- the numbers of contents are of items
pub numbers_inside : (items : List LentItem) (bytes : List ℕ) → bytes ≡ text_numbers (map bytes_of (item_views items)) → (a : ℕ) → a < length bytes → get_or bytes a 0 < length bytes
numbers_inside items bytes is a lt =
    let texts = map bytes_of (item_views items) in
    let P : List ℕ → Type 0 = λ l. (a : ℕ) → a < length l → get_or l a 0 < length l in
    subst P (sym is) (numbers_within texts) a lt

module _ (items : List LentItem) (bytes chosen : List ℕ) (numbers : bytes ≡ text_numbers (map bytes_of (item_views items))) (are : AreShared bytes chosen) where
  pub chosen_inside : All (λ a. a < length items) chosen
  chosen_inside = let P : ℕ → Type 0 = λ n. All (λ a. a < n) chosen in subst P (views_wide items) (inside (item_views items) chosen (chosen_from (item_views items) bytes chosen numbers are))

  pub chosen_numbered : All (λ a. a < length bytes) chosen
  chosen_numbered = let P : ℕ → Type 0 = λ n. All (λ a. a < n) chosen in
      subst P (sym (all_numbers bytes_of (item_views items) bytes numbers)) (inside (item_views items) chosen (chosen_from (item_views items) bytes chosen numbers are))

  pub chosen_few : length chosen ≤ length items
  chosen_few = omega (arith, chosen_most (item_views items) chosen (chosen_from (item_views items) bytes chosen numbers are), views_wide items)

  pub chosen_rise : IsStrictlyIncreasing chosen
  chosen_rise = rises (item_views items) chosen (chosen_from (item_views items) bytes chosen numbers are)

  pub chosen_in_order : IsStrictlyIncreasing (sections_of (item_views items)) → IsStrictlyIncreasing (sections_of (views_at items chosen))
  chosen_in_order = chosen_order (item_views items) chosen (chosen_from (item_views items) bytes chosen numbers are)

  pub chosen_contents : (own lent : List ℕ) → lent ≡ own → own ≡ map (λ a. get_or bytes a 0) chosen → AreContents (views_at items chosen) lent
  chosen_contents own lent same is =
      contents_from (item_views items) bytes chosen lent numbers (inside (item_views items) chosen (chosen_from (item_views items) bytes chosen numbers are)) (same ∙ is)

  module _ (own lent l : List ℕ) (n : ℕ) (leaders : AreLeaders (views_at items chosen) own) (congruence : IsCongruence (views_at items chosen) (classes own))
      (holds : HoldsAll (views_at items chosen) own) (same : lent ≡ own) (count : n ≡ length items) (spread : AreSpread n chosen (length chosen) lent l) where
    spread_own : AreSpread (length (item_views items)) chosen (length chosen) own l
    spread_own =
        let P : List ℕ → Type 0 = λ o. AreSpread (length (item_views items)) chosen (length chosen) o l in
        let Q : ℕ → Type 0 = λ k. AreSpread k chosen (length chosen) lent l in
        subst P same (subst Q (count ∙ sym (views_wide items)) spread)

    pub shared_folded : IsFolded (item_views items) l
    shared_folded =
        all_folded (item_views items) chosen (chosen_from (item_views items) bytes chosen numbers are) own l (folded_by (views_at items chosen) own leaders congruence holds) spread_own

    pub shared_steps : (old new : ℕ) → new + key_count (views_at items chosen) ≡ old + leader_count own → new + key_count (item_views items) ≡ old + leader_count l
    shared_steps old new is =
        let among = chosen_from (item_views items) bytes chosen numbers are in
        let one = leaders_counted (item_views items) chosen among own l (folded_by (views_at items chosen) own leaders congruence holds) spread_own in
        let two = keys_counted_all (item_views items) chosen among in
        omega (arith, is, one, two)
