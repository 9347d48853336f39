-- Where no pair that is met has an end, the pairs are a congruence.
use Rattle.std.proofs.Common.{◌≡◌, ℕ, ◌<◌, ◌≤◌, true, false, Option, Some, None, is_some, List, length, get_or, map, Contains, refl, sym, ap, ◌∙◌, subst, inl, inr, arith}
use Rattle.std.specs.List.Sorted.{IsStrictlyIncreasing}
use Rattle.std.proofs.lemmas.Bool.{cases_Bool, false_from_ne_true, not-false, or_cases, true≢false}
use Rattle.std.proofs.lemmas.List.{get_or_default}
use Rattle.lk_base.proofs.Membership.{from_map, in_map}
use Rattle.link_sections.specs.declared.targets.Target.TheVariants.{Section}
use Rattle.link_sections.specs.FoldItems.{FoldItem, sections_of}
use Rattle.link_sections.proofs.SameTargets.{target_Decides}
use Rattle.icf_part.specs.Folding.{AreFolded, Fits, IsCongruence, Matches, StandsFor, classes, item_at, key_of, Pair as ItemPair, pair as item_pair}
use Rattle.icf_part.specs.Leaders.{same_target}
use Rattle.icf_part.proofs.Deciding.{key_Decides}
use Rattle.icf_part.proofs.Paired.{classes_have}
use Rattle.why_chain.specs.declared.pairs.Met.{Met}
use Rattle.why_chain.specs.declared.pairs.Pair.{Pair}
use Rattle.why_chain.specs.Aparts.{Chain, all_chains, apart_chain, can_match, is_apart, next_pair, target_of, two_items}
use Rattle.why_chain.specs.Meetings.{no_met}
use Rattle.why_chain.proofs.Apartness.{no_congruence}
use Rattle.why_chain.proofs.FirstChains.{new_there, no_first}
use Rattle.why_chain.proofs.Firsts.{find_none}
use Rattle.why_chain.proofs.Meets.{met_at, pair_at}
use Rattle.why_chain.proofs.Pairing.{items_tell, never_same, place_item}
use Rattle.why_chain.proofs.Parting.{IsApartAt}

module _ (items : List FoldItem) (a b : ℕ) (queue : List Met) (place : ℕ) (h : IsApartAt items a b queue place) (all : length queue ≤ place) where
  abbrev item_met : Met → ItemPair
  item_met m = item_pair m.one m.two

  abbrev pairs : List ItemPair
  pairs = map item_met queue

  -- a pair of the queue is one of them, and the other way round
  listed_at : (i : ℕ) (p : Pair) → i < length queue → pair_at queue i ≡ p → Contains pairs (item_pair p.one p.two)
  listed_at i p less is =
      let here : Contains queue (met_at queue i) = (i, less, get_or_default queue i (met_at queue i) no_met less) in
      let P : Pair → Type 0 = λ x. Contains pairs (item_pair x.one x.two) in
      subst P is (in_map item_met queue (met_at queue i) here)

  record IsListed (p : ItemPair) : Type 0 where
    at : ℕ
    inside : at < length queue
    is : item_met (met_at queue at) ≡ p

  where_listed : (p : ItemPair) → Contains pairs p → IsListed p
  where_listed p has =
      let found = from_map item_met queue p has in
      let i = found.listed.0 in
      let own : met_at queue i ≡ found.x = get_or_default queue i no_met found.x found.listed.1 ∙ found.listed.2 in
      record { at = i; inside = found.listed.1; is = ap item_met own ∙ found.is }

  -- what two relocations stand for is equal, or is a pair of the queue
  by_pair : (i k : ℕ) → i < length queue → (q : Pair) → same_target (target_of items (pair_at queue i).one k) (target_of items (pair_at queue i).two k) ≡ false
      → next_pair items (pair_at queue i) k ≡ Some q → Matches items pairs (target_of items (pair_at queue i).one k) (target_of items (pair_at queue i).two k)
  by_pair i k less q other e =
      let p = pair_at queue i in
      let spot = items_tell (sections_of items) (target_of items p.one k) (target_of items p.two k) q e in
      let met = h.search.closed i k q (omega (arith, less, all)) (new_there items p q k other e) in
      let first = place_item items spot.section q.one spot.first in
      let second = place_item items spot.other q.two spot.second in
      inr (record {
        a = q.one;
        b = q.two;
        offset = spot.offset;
        rest = spot.rest;
        listed = listed_at met.0 q met.1 met.2;
        one = spot.one ∙ ap (λ s. Some (Section s spot.offset spot.rest)) (sym first.1);
        two = spot.two ∙ ap (λ s. Some (Section s spot.offset spot.rest)) (sym second.1);
      })

  some_pair : (o : Option Pair) → is_some o ≡ true → (q : Pair) × (o ≡ Some q)
  some_pair None e = absurd (true≢false (sym e))
  some_pair (Some q) e = (q, refl)

  targets_match : (i k : ℕ) → i < length queue → can_match items (pair_at queue i) k ≡ true → Matches items pairs (target_of items (pair_at queue i).one k) (target_of items (pair_at queue i).two k)
  targets_match i k less can =
      let p = pair_at queue i in
      let t = target_of items p.one k in
      let u = target_of items p.two k in
      elim (cases_Bool (same_target t u)) [
        | inl same ↦ inl ((target_Decides t u).0 same)
        | inr other ↦ elim (or_cases (same_target t u) (is_some (next_pair items p k)) can) [
          | inl same ↦ absurd (true≢false (sym same ∙ other))
          | inr some ↦ let q = some_pair (next_pair items p k) some in by_pair i k less q.0 other q.1
        ]
      ]

  fit_at : (i : ℕ) → i < length queue → Fits items pairs (pair_at queue i).one (pair_at queue i).two
  fit_at i less =
      let p = pair_at queue i in
      let none = no_first items p (h.missed i (omega (arith, less, all))) in
      let inside = h.low i less in
      record {
        one = inside.0;
        two = inside.1;
        key = (key_Decides (key_of (item_at items p.one)) (key_of (item_at items p.two))).0 none.alike;
        targets = λ k lt. targets_match i k less (not-false (can_match items p k) (none.targets k lt));
      }

  pub congruence_met : IsCongruence items pairs
  congruence_met = record {
    fits = λ x y has.
        let found = where_listed (item_pair x y) has in
        let P : ItemPair → Type 0 = λ p. Fits items pairs p.one p.two in
        subst P found.is (fit_at found.at found.inside);
  }

  pub folded_met : AreFolded items a b
  folded_met = record {
    pairs = pairs;
    congruence = congruence_met;
    listed = listed_at 0 (two_items a b) h.search.some h.search.begins;
  }

-- a chain that shows that two items are apart, and that they are folded or one, are not both there
pub apart_or_folded : (items : List FoldItem) (a b : ℕ) (c : Chain) → IsStrictlyIncreasing (sections_of items) → is_apart items (two_items a b) c ≡ true → StandsFor items a b → ⊥
apart_or_folded items a b c order e (inl same) = true≢false (sym e ∙ never_same items c.last c.vias (two_items a b) same)
apart_or_folded items a b c order e (inr folded) = no_congruence items order folded.pairs folded.congruence c.last c.vias (two_items a b) e (inl folded.listed)

-- so no chain shows it of two that stand for one another
pub none_apart : (items : List FoldItem) (a b : ℕ) → IsStrictlyIncreasing (sections_of items) → StandsFor items a b → apart_chain items a b ≡ None
unfolding apart_chain
none_apart items a b order stands =
    find_none (is_apart items (two_items a b)) (all_chains items) (λ (c : Chain). false_from_ne_true (is_apart items (two_items a b) c) (λ e.
    apart_or_folded items a b c order e stands))

-- nor of two that have one leader, where those of one leader are a congruence
pub one_leader : (items : List FoldItem) (leaders : List ℕ) (a b : ℕ) → IsStrictlyIncreasing (sections_of items) → IsCongruence items (classes leaders)
    → a < length leaders → b < length leaders → get_or leaders a 0 ≡ get_or leaders b 0 → apart_chain items a b ≡ None
one_leader items leaders a b order congruence la lb same =
    none_apart items a b order (inr (record { pairs = classes leaders; congruence = congruence; listed = classes_have leaders a b la lb same }))
