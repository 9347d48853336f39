-- What is folded among some of the items is folded among all of them.
use Rattle.std.proofs.Common.{◌≡◌, ◌<◌, ℕ, List, length, map, Option, Some, Contains, sym, ap, ◌∙◌, subst, inl, inr}
use Rattle.link_sections.specs.declared.targets.Target.{Target}
use Rattle.link_sections.specs.declared.targets.Target.TheVariants.{Section}
use Rattle.link_sections.specs.FoldItems.{FoldItem}
use Rattle.name_numbers.proofs.Runs.{in_map, map_back}
use Rattle.icf_part.specs.Folding.{AreFolded, ArePaired, Fits, IsCongruence, Matches, Pair, item_at, key_of, pair, target_at}

-- each item of a list stands in another, at the place that is given for its own
pub record StandAmong (fewer more : List FoldItem) (place : ℕ → ℕ) : Type 0 where
  pub within : (a : ℕ) → a < length fewer → place a < length more
  pub same : (a : ℕ) → a < length fewer → item_at fewer a ≡ item_at more (place a)

module _ (fewer more : List FoldItem) (place : ℕ → ℕ) (among : StandAmong fewer more place) where
  abbrev moved : Pair → Pair
  moved p = pair (place p.one) (place p.two)

  module _ (pairs : List Pair) (congruence : IsCongruence fewer pairs) where
    paired_more : (t u : Option Target) → ArePaired fewer pairs t u → ArePaired more (map moved pairs) t u
    paired_more t u p =
        let fits = congruence.fits p.a p.b p.listed in
        record {
          a = place p.a;
          b = place p.b;
          offset = p.offset;
          rest = p.rest;
          listed = in_map moved pairs (pair p.a p.b) p.listed;
          one = p.one ∙ ap (λ (i : FoldItem). Some (Section i.section p.offset p.rest)) (among.same p.a fits.one);
          two = p.two ∙ ap (λ (i : FoldItem). Some (Section i.section p.offset p.rest)) (among.same p.b fits.two);
        }

    matches_more : (t u : Option Target) → Matches fewer pairs t u → Matches more (map moved pairs) t u
    matches_more t u (inl same) = inl same
    matches_more t u (inr paired) = inr (paired_more t u paired)

    fits_more : (a b : ℕ) → Contains pairs (pair a b) → Fits more (map moved pairs) (place a) (place b)
    fits_more a b has =
        let fits = congruence.fits a b has in
        let one = among.same a fits.one in
        let two = among.same b fits.two in
        record {
          one = among.within a fits.one;
          two = among.within b fits.two;
          key = sym (ap key_of one) ∙ fits.key ∙ ap key_of two;
          targets = λ k lt.
              let P : FoldItem → Type 0 = λ i. k < length i.relocs → Matches more (map moved pairs) (target_at i k) (target_at (item_at more (place b)) k) in
              let Q : FoldItem → Type 0 = λ i. Matches more (map moved pairs) (target_at (item_at fewer a) k) (target_at i k) in
              subst P one (λ low. subst Q two (matches_more (target_at (item_at fewer a) k) (target_at (item_at fewer b) k) (fits.targets k low))) lt;
        }

    congruence_more : IsCongruence more (map moved pairs)
    congruence_more = record {
      fits = λ a b has.
          let back = map_back moved pairs (pair a b) has in
          let p : Pair = back.0 in
          let P : Pair → Type 0 = λ q. Fits more (map moved pairs) q.one q.two in
          subst P back.1.1 (fits_more p.one p.two back.1.0);
    }

  pub folded_more : (a b : ℕ) → AreFolded fewer a b → AreFolded more (place a) (place b)
  folded_more a b folded = record {
    pairs = map moved folded.pairs;
    congruence = congruence_more folded.pairs folded.congruence;
    listed = in_map moved folded.pairs (pair a b) folded.listed;
  }
