-- Walks and lists of pairs looked at from place to place.
use Rattle.std.proofs.Common.{◌≡◌, ℕ, ◌+◌, ◌-◌, ◌<◌, ◌≤◌, ◌==◌, ◌&&◌, true, false, Some, None, List, length, get_or, drop, sym, ap, ◌∙◌, arith}
use Rattle.std.proofs.lemmas.Bool.{and_left}
use Rattle.std.proofs.lemmas.List.{drop_all, drop_more}
use Rattle.lk_base.specs.RelocKinds.{is_among}
use Rattle.lk_tables.specs.Reach.{ends_at}
use Rattle.link_sections.specs.FoldItems.{FoldItem}
use Rattle.why_chain.specs.declared.chains.ApartEnd.{ApartEnd}
use Rattle.why_chain.specs.declared.pairs.Pair.{Pair}
use Rattle.why_chain.specs.Aparts.{is_apart_by, is_end, leads_on, next_pair}
use Rattle.why_chain.specs.Walks.{leads_to}

module _ (items : List FoldItem) (last : ApartEnd) (vias : List ℕ) (i : ℕ) (p : Pair) where
  by_next : i < length vias → is_apart_by items last (drop i vias) p ≡ leads_on (is_apart_by items last (drop (i + 1) vias)) (next_pair items p (get_or vias i 0))
  by_next less = ap (λ ks. is_apart_by items last ks p) (drop_more vias i 0 less)

  -- one pair on, or none, or the last
  pub pair_on : (q : Pair) → i < length vias → next_pair items p (get_or vias i 0) ≡ Some q → is_apart_by items last (drop (i + 1) vias) q ≡ is_apart_by items last (drop i vias) p
  pair_on q less is = sym (by_next less ∙ ap (leads_on (is_apart_by items last (drop (i + 1) vias))) is)

  pub pair_none : i < length vias → next_pair items p (get_or vias i 0) ≡ None → is_apart_by items last (drop i vias) p ≡ false
  pair_none less is = by_next less ∙ ap (leads_on (is_apart_by items last (drop (i + 1) vias))) is

  pub pair_last : length vias ≤ i → is_apart_by items last (drop i vias) p ≡ is_end items p last
  pair_last past = ap (λ ks. is_apart_by items last ks p) (drop_all i vias past)

module _ (ends : List (List ℕ)) (target : ℕ) (sections : List ℕ) (i : ℕ) where
  abbrev before : ℕ
  before = get_or sections (i - 1) 0

  walk_next : i < length sections → leads_to ends target before (drop i sections) ≡ (is_among (ends_at ends before) (get_or sections i 0) && leads_to ends target (get_or sections i 0) (drop (i + 1) sections))
  walk_next less = ap (leads_to ends target before) (drop_more sections i 0 less)

  -- one section on, or none, or the last
  pub walk_on : i < length sections → is_among (ends_at ends before) (get_or sections i 0) ≡ true
      → leads_to ends target (get_or sections ((i + 1) - 1) 0) (drop (i + 1) sections) ≡ leads_to ends target before (drop i sections)
  walk_on less is =
      let here : (i + 1) - 1 ≡ i = omega arith in
      ap (λ k. leads_to ends target (get_or sections k 0) (drop (i + 1) sections)) here
      ∙ sym (walk_next less ∙ ap (λ b. b && leads_to ends target (get_or sections i 0) (drop (i + 1) sections)) is)

  pub walk_off : i < length sections → is_among (ends_at ends before) (get_or sections i 0) ≡ false → leads_to ends target before (drop i sections) ≡ false
  walk_off less is = walk_next less ∙ and_left (is_among (ends_at ends before) (get_or sections i 0)) (leads_to ends target (get_or sections i 0) (drop (i + 1) sections)) is

  pub walk_last : length sections ≤ i → leads_to ends target before (drop i sections) ≡ (before == target)
  walk_last past = ap (leads_to ends target before) (drop_all i sections past)
