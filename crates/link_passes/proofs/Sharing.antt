-- Folding where only the sections are looked at whose contents another has: all sections have the leaders that they have by the definition.
use Rattle.std.proofs.Common.{◌≡◌, ℕ, ◌<◌, All, Bool, List, [], ◌∷◌, Option, length, map, refl, sym, ap, ◌∙◌, subst, arith}
use Rattle.std.specs.List.Sorted.{IsStrictlyIncreasing}
use Rattle.std.proofs.lemmas.List.{get_or-map, length-map}
use Rattle.std.proofs.lemmas.List.Elements.{All-head, All-tail}
use Rattle.icf_part.specs.Chosen.{AreChosen, AreShared, AreSharers, items_at, own_leading}
use Rattle.icf_part.specs.Folding.{item_at, no_item}
use Rattle.icf_part.specs.Leaders.{leaders_of}
use Rattle.icf_part.specs.Signatures.{bytes_of}
use Rattle.icf_part.proofs.SharedItems.{chosen_from}
use Rattle.icf_part.proofs.Sharers.{leaders_shared, sharers_lead}
use Rattle.icf_part.proofs.Spreading.{chosen_order, inside}
use Rattle.icf_part.proofs.Whole.{IsFolded}
use Rattle.link_sections.specs.declared.fold_items.FoldItem.{FoldItem as LentItem}
use Rattle.link_sections.specs.FoldItems.{FoldItem, item_views, section_of, sections_of}
use Rattle.link_sections.specs.Leaders.{folded_leaders}
use Rattle.link_sections.specs.PoolViews.{Merged}
use Rattle.link_sections.proofs.Folded.{LeadItems}
use Rattle.lk_tables.specs.Binding.{Bindings}
use Rattle.lk_tables.specs.Files.{File}
use Rattle.name_numbers.specs.Texts.{text_numbers}
use Rattle.sec_graph.specs.Foldable.{contents_at, foldable, item_in, item_of, item_there, items}
use Rattle.sec_graph.proofs.FoldOrder.{items_are, items_rise, sections_are}

module _ (files : List File) (b : Bindings) (merged : List (Option Merged)) where
  same_bytes : (ns : List ℕ) → map (contents_at files) ns ≡ map bytes_of (map (item_of files b merged) ns)
  unfolding item_in
  same_bytes [] = refl
  same_bytes (n ∷ ns) = ap (λ l. contents_at files n ∷ l) (same_bytes ns)

  all_sections : (ns : List ℕ) → map section_of (map (item_of files b merged) ns) ≡ ns
  unfolding item_in
  all_sections [] = refl
  all_sections (n ∷ ns) = ap (λ l. n ∷ l) (all_sections ns)

  -- sections, and the places of those whose contents another has
  module _ (sections places : List ℕ) (texts : List (List ℕ)) (are_texts : texts ≡ map (contents_at files) sections) (shared : AreShared (text_numbers texts) places) where
    abbrev each : List FoldItem
    each = map (item_of files b merged) sections

    among : AreChosen each places
    among = chosen_from each (text_numbers texts) places (ap text_numbers (are_texts ∙ same_bytes sections)) shared

    pub places_inside : All (λ k. k < length sections) places
    places_inside = let P : ℕ → Type 0 = λ n. All (λ k. k < n) places in subst P (length-map sections (item_of files b merged)) (inside each places among)

    same_items : (ks : List ℕ) → All (λ k. k < length sections) ks → map (item_there files b merged sections) ks ≡ map (item_at each) ks
    same_items [] within = refl
    same_items (k ∷ ks) within =
        let P : ℕ → Type 0 = λ j. j < length sections in
        ap (λ i. i ∷ map (item_there files b merged sections) ks) (sym (get_or-map (item_of files b merged) sections k 0 no_item (All-head P k ks within)))
        ∙ ap (λ l. item_at each k ∷ l) (same_items ks (All-tail P k ks within))

    each_rise : IsStrictlyIncreasing sections → IsStrictlyIncreasing (sections_of each)
    unfolding sections_of
    each_rise order = let Q : List ℕ → Type 0 = IsStrictlyIncreasing in subst Q (sym (all_sections sections)) order

    module _ (some : List FoldItem) (are : some ≡ map (item_there files b merged sections) places) where
      some_are : some ≡ items_at each places
      unfolding items_at
      some_are = are ∙ same_items places places_inside

      pub sharers_of : AreSharers each some
      sharers_of = record { chosen = places; among = among; some_are = some_are }

      pub sharers_rise : IsStrictlyIncreasing sections → IsStrictlyIncreasing (sections_of some)
      sharers_rise order =
          let P : List FoldItem → Type 0 = λ l. IsStrictlyIncreasing (sections_of l) in
          subst P (sym some_are) (chosen_order each places among (each_rise order))

  -- as they are lent
  pub shared_so : (sections : List ℕ) (held lent : List LentItem) → lent ≡ held → AreSharers (map (item_of files b merged) sections) (item_views held) →
      AreSharers (map (item_of files b merged) sections) (item_views lent)
  shared_so sections held lent is sharers = let P : List LentItem → Type 0 = λ l. AreSharers (map (item_of files b merged) sections) (item_views l) in subst P (sym is) sharers

  -- all that may be folded
  module _ (kept barred : List Bool) (sections : List ℕ) (found : sections ≡ foldable files b kept barred) (some : List FoldItem)
      (sharers : AreSharers (map (item_of files b merged) sections) some) (places : List ℕ) (folded : IsFolded some places) where
    abbrev all : List FoldItem
    all = items files b merged kept barred

    sharers_all : AreSharers all some
    sharers_all =
        let P : List FoldItem → Type 0 = λ l. AreSharers l some in
        subst P (ap (map (item_of files b merged)) found ∙ sym (items_are files b merged kept barred)) sharers

    pub all_folded : IsFolded all (leaders_of all)
    all_folded = sharers_lead all some sharers_all places folded

    pub all_lead : LeadItems (length all) (leaders_of all)
    all_lead = record {
      count = all_folded.leaders.count;
      within = λ a lt. all_folded.places a 0 (omega (arith, lt, all_folded.leaders.count));
      own = λ a lt. all_folded.own a;
    }

    sections_all : map section_of all ≡ foldable files b kept barred
    unfolding sections_of foldable
    sections_all = sections_are files b merged kept barred

    pub leaders_all : (own leaders : List (Option ℕ)) → leaders ≡ folded_leaders some places (own_leading (foldable files b kept barred) own) → leaders ≡ folded_leaders all (leaders_of all) own
    leaders_all own leaders is =
        is ∙ ap (λ ns. folded_leaders some places (own_leading ns own)) (sym sections_all) ∙ leaders_shared all some sharers_all places folded (items_rise files b merged kept barred) own
