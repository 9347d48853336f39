-- A chain that passes its test shows that no congruence has the pair.
use Rattle.std.proofs.Common.{◌≡◌, ◌⊎◌, ℕ, ◌<◌, ◌&&◌, ltb, true, Some, is_some, List, [], ◌∷◌, Contains, sym, ap, ap₂, ◌∙◌, subst, inl, inr, ltb-true}
use Rattle.std.specs.List.Sorted.{IsStrictlyIncreasing}
use Rattle.std.proofs.lemmas.Bool.{and_parts, not-true, or_parts, true≢false}
use Rattle.std.proofs.lemmas.Option.{same_Some}
use Rattle.link_sections.specs.FoldItems.{FoldItem, sections_of}
use Rattle.link_sections.proofs.SameTargets.{target_Decides}
use Rattle.icf_part.specs.Folding.{ArePaired, IsCongruence, item_at, key_of, Pair as ItemPair, pair as item_pair}
use Rattle.icf_part.specs.Leaders.{same_target}
use Rattle.icf_part.proofs.Deciding.{key_Decides}
use Rattle.why_chain.specs.declared.chains.ApartEnd.{ApartEnd}
use Rattle.why_chain.specs.declared.chains.ApartEnd.TheVariants as ends
use Rattle.why_chain.specs.declared.pairs.Pair.{Pair}
use Rattle.why_chain.specs.Aparts.{are_alike, can_match, is_apart_by, is_end, items_of, next_pair, no_match, reloc_count, target_of, two_items}
use Rattle.why_chain.proofs.Pairing.{equal_lead, item_place, items_there, leads_tell, never_same, next_there}

module _ (items : List FoldItem) (order : IsStrictlyIncreasing (sections_of items)) (pairs : List ItemPair) (congruence : IsCongruence items pairs) where
  -- targets that a congruence pairs lead to a pair of it
  paired_there : (p : Pair) (k : ℕ) → (m : ArePaired items pairs (target_of items p.one k) (target_of items p.two k)) → next_pair items p k ≡ Some (two_items m.a m.b)
  paired_there p k m =
      let fit = congruence.fits m.a m.b m.listed in
      ap₂ (items_of (sections_of items)) m.one m.two
      ∙ items_there (sections_of items) (item_at items m.a).section (item_at items m.b).section m.offset m.rest m.a m.b (item_place items order m.a fit.one) (item_place items order m.b fit.two)

  no_end : (last : ApartEnd) (p : Pair) → Contains pairs (item_pair p.one p.two) → is_end items p last ≡ true → ⊥
  no_end ends.Key p listed e =
      let fit = congruence.fits p.one p.two listed in
      true≢false (sym ((key_Decides (key_of (item_at items p.one)) (key_of (item_at items p.two))).1 fit.key) ∙ not-true (are_alike items p) e)
  no_end (ends.Target k) p listed e =
      let fit = congruence.fits p.one p.two listed in
      let parts = and_parts (are_alike items p) (ltb k (reloc_count items p) && no_match items p k) e in
      let more = and_parts (ltb k (reloc_count items p)) (no_match items p k) parts.1 in
      let less : k < reloc_count items p = ltb-true k (reloc_count items p) more.0 in
      let none = or_parts (same_target (target_of items p.one k) (target_of items p.two k)) (is_some (next_pair items p k)) (not-true (can_match items p k) more.1) in
      elim (fit.targets k less) [
        | inl same ↦ true≢false (sym ((target_Decides (target_of items p.one k) (target_of items p.two k)).1 same) ∙ none.0)
        | inr m ↦ true≢false (sym (ap is_some (paired_there p k m)) ∙ none.1)
      ]

  pub no_congruence : (last : ApartEnd) (vias : List ℕ) (p : Pair) → is_apart_by items last vias p ≡ true → Contains pairs (item_pair p.one p.two) ⊎ (p.one ≡ p.two) → ⊥
  no_congruence last vias p e (inr same) = true≢false (sym e ∙ never_same items last vias p same)
  no_congruence last [] p e (inl listed) = no_end last p listed e
  no_congruence last (k ∷ ks) p e (inl listed) =
      let on = leads_tell items (is_apart_by items last ks) (next_pair items p k) e in
      let fit = congruence.fits p.one p.two listed in
      let less : k < reloc_count items p = next_there items p on.0 k on.1 in
      no_congruence last ks on.0 on.2 (elim (fit.targets k less) [
        | inl same ↦ inr (equal_lead (sections_of items) (target_of items p.one k) (target_of items p.two k) on.0 same on.1)
        | inr m ↦
            let same : two_items m.a m.b ≡ on.0 = same_Some (two_items m.a m.b) on.0 (sym (paired_there p k m) ∙ on.1) in
            let P : Pair → Type 0 = λ x. Contains pairs (item_pair x.one x.two) in
            inl (subst P same m.listed)
      ])
