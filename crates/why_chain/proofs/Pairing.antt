-- Where relocations of two items lead, and that one item is never apart from itself.
use Rattle.std.proofs.Common.{◌≡◌, ℕ, ◌<◌, ◌≤◌, ◌==◌, ◌&&◌, ltb, ℤ, Bool, true, false, cond, Option, Some, None, IfSome, is_some, List, [], ◌∷◌, length, get_or, refl, sym, ap, ap₂, ◌∙◌, subst, inl, inr, int_eq, arith}
use Rattle.std.specs.List.Sorted.{IsStrictlyIncreasing}
use Rattle.std.proofs.lemmas.Bool.{and_from, and_parts, and_right, cases_lt, cond-true, eq-eqb, eqb-true, not_from_true, or_left, true≢false}
use Rattle.std.proofs.lemmas.Bool.Decides.{Decides-int_eq}
use Rattle.std.proofs.lemmas.List.{get_or-map, get_or_past, length-map}
use Rattle.std.proofs.lemmas.Option.{none-some, same_Some}
use Rattle.link_sections.specs.declared.fold_items.FoldReloc.{FoldReloc}
use Rattle.link_sections.specs.declared.targets.Target.{Target}
use Rattle.link_sections.specs.declared.targets.Target.TheVariants.{Section}
use Rattle.link_sections.specs.FoldItems.{FoldItem, section_of, sections_of}
use Rattle.link_sections.proofs.SameTargets.{target_Decides}
use Rattle.icf_part.specs.Folding.{item_at, key_of, no_item, no_reloc, target_at}
use Rattle.icf_part.specs.Leaders.{same_target}
use Rattle.icf_part.specs.Signatures.{place_of}
use Rattle.icf_part.proofs.Deciding.{key_Decides}
use Rattle.icf_part.proofs.SectionPlaces.{place_tells, placed}
use Rattle.why_chain.specs.declared.chains.ApartEnd.{ApartEnd}
use Rattle.why_chain.specs.declared.chains.ApartEnd.TheVariants as ends
use Rattle.why_chain.specs.declared.pairs.Pair.{Pair}
use Rattle.why_chain.specs.Aparts.{are_alike, both_placed, can_match, is_apart_by, is_end, items_of, leads_on, next_pair, no_match, reloc_count, target_of, two_items}

pub if_some : (b : Bool) (x : Option Pair) (p : Pair) → cond b x None ≡ Some p → (b ≡ true) × (x ≡ Some p)
if_some true x p e = (refl, e)
if_some false x p e = absurd (none-some p e)

pub both_tell : (o q : Option ℕ) (p : Pair) → both_placed o q ≡ Some p → (o ≡ Some p.one) × (q ≡ Some p.two)
both_tell (Some a) (Some b) p e =
    let same : two_items a b ≡ p = same_Some (two_items a b) p e in
    (ap (λ (x : Pair). Some x.one) same, ap (λ (x : Pair). Some x.two) same)
both_tell (Some a) None p e = absurd (none-some p e)
both_tell None q p e = absurd (none-some p e)

-- the sections to which two targets lead, and their places
pub record AreItems (sections : List ℕ) (t u : Option Target) (p : Pair) : Type 0 where
  pub section : ℕ
  pub other : ℕ
  pub offset : ℕ
  pub rest : ℤ
  pub one : t ≡ Some (Section section offset rest)
  pub two : u ≡ Some (Section other offset rest)
  pub first : place_of sections section ≡ Some p.one
  pub second : place_of sections other ≡ Some p.two

same_spot : (t o q : ℕ) (r m : ℤ) → o ≡ q → r ≡ m → Some (Section t q m) ≡ Some (Section t o r)
same_spot t o q r m e f = cc

pub items_tell : (sections : List ℕ) (t u : Option Target) (p : Pair) → items_of sections t u ≡ Some p → AreItems sections t u p
items_tell sections (Some (Section s o r)) (Some (Section t q m)) p e =
    let parts = if_some (o == q && int_eq r m) (both_placed (place_of sections s) (place_of sections t)) p e in
    let spot = and_parts (o == q) (int_eq r m) parts.0 in
    let places = both_tell (place_of sections s) (place_of sections t) p parts.1 in
    record {
      section = s;
      other = t;
      offset = o;
      rest = r;
      one = refl;
      two = same_spot t o q r m (eqb-true o q spot.0) ((Decides-int_eq r m).0 spot.1);
      first = places.0;
      second = places.1;
    }
items_tell sections t u p e = absurd (none-some p e)

pub items_there : (sections : List ℕ) (s t o : ℕ) (r : ℤ) (a b : ℕ) → place_of sections s ≡ Some a → place_of sections t ≡ Some b →
    items_of sections (Some (Section s o r)) (Some (Section t o r)) ≡ Some (two_items a b)
items_there sections s t o r a b e f =
    cond-true (o == o && int_eq r r) (both_placed (place_of sections s) (place_of sections t)) None (and_from (o == o) (int_eq r r) (eq-eqb o o refl) ((Decides-int_eq r r).1 refl))
    ∙ ap₂ both_placed e f

-- equal targets lead to one item
pub same_section : (s t o p : ℕ) (r q : ℤ) → Some (Section s o r) ≡ Some (Section t p q) → s ≡ t
same_section s t o p r q e = cc

pub equal_lead : (sections : List ℕ) (t u : Option Target) (p : Pair) → t ≡ u → items_of sections t u ≡ Some p → p.one ≡ p.two
equal_lead sections t u p same e =
    let at = items_tell sections t u p e in
    let section : at.section ≡ at.other = same_section at.section at.other at.offset at.offset at.rest at.rest (sym at.one ∙ same ∙ at.two) in
    same_Some p.one p.two (sym at.first ∙ ap (place_of sections) section ∙ at.second)

-- a relocation with a target is there
past_target : (relocs : List FoldReloc) (k : ℕ) → length relocs ≤ k → (get_or relocs k no_reloc).target ≡ None
past_target relocs k most = ap (λ (r : FoldReloc). r.target) (get_or_past relocs k no_reloc most)

pub target_inside : (i : FoldItem) (k : ℕ) (t : Target) → target_at i k ≡ Some t → k < length i.relocs
target_inside i k t e = elim (cases_lt k (length i.relocs)) [
  | inl less ↦ less
  | inr most ↦ absurd (none-some t (sym (past_target i.relocs k most) ∙ e))
]

module _ (items : List FoldItem) where
  section_at : (a : ℕ) → a < length items → get_or (sections_of items) a 0 ≡ (item_at items a).section
  unfolding sections_of
  section_at a lt = get_or-map section_of items a no_item 0 lt

  sections_wide : length (sections_of items) ≡ length items
  unfolding sections_of
  sections_wide = length-map items section_of

  -- an item's place, and the item at a place
  pub item_place : IsStrictlyIncreasing (sections_of items) → (a : ℕ) → a < length items → place_of (sections_of items) (item_at items a).section ≡ Some a
  item_place order a lt = placed (sections_of items) order a (item_at items a).section (omega (arith, lt, sections_wide)) (section_at a lt)

  pub place_item : (section a : ℕ) → place_of (sections_of items) section ≡ Some a → (a < length items) × ((item_at items a).section ≡ section)
  place_item section a e =
      let found = place_tells (sections_of items) section a e in
      let inside : a < length items = omega (arith, found.within, sections_wide) in
      (inside, sym (section_at a inside) ∙ found.is)

  -- where a relocation leads is within the items
  pub next_inside : (p q : Pair) (k : ℕ) → next_pair items p k ≡ Some q → (q.one < length items) × (q.two < length items)
  next_inside p q k e =
      let at = items_tell (sections_of items) (target_of items p.one k) (target_of items p.two k) q e in
      ((place_item at.section q.one at.first).0, (place_item at.other q.two at.second).0)

  pub next_within : (p : Pair) (k n : ℕ) → length items ≡ n → (o : Option Pair) → o ≡ next_pair items p k → IfSome o (λ q. (q.one < n) × (q.two < n))
  next_within p k n wide None e = tt
  next_within p k n wide (Some q) e = let inside = next_inside p q k (sym e) in (omega (arith, inside.0, wide), omega (arith, inside.1, wide))

  -- and the relocation is there
  pub next_there : (p q : Pair) (k : ℕ) → next_pair items p k ≡ Some q → k < reloc_count items p
  next_there p q k e =
      let at = items_tell (sections_of items) (target_of items p.one k) (target_of items p.two k) q e in
      target_inside (item_at items p.one) k (Section at.section at.offset at.rest) at.one

  -- an item is not apart from itself
  own_end : (c : ℕ) (last : ApartEnd) → is_end items (two_items c c) last ≡ false
  own_end c ends.Key = not_from_true (are_alike items (two_items c c)) ((key_Decides (key_of (item_at items c)) (key_of (item_at items c))).1 refl)
  own_end c (ends.Target k) =
      let p = two_items c c in
      let t = target_of items c k in
      and_right (are_alike items p) (ltb k (reloc_count items p) && no_match items p k)
      (and_right (ltb k (reloc_count items p)) (no_match items p k)
      (not_from_true (can_match items p k) (or_left (same_target t t) (is_some (next_pair items p k)) ((target_Decides t t).1 refl))))

  by_next : (rest : Pair → Bool) (o : Option Pair) → ((q : Pair) → o ≡ Some q → rest q ≡ false) → leads_on rest o ≡ false
  by_next rest None each = refl
  by_next rest (Some q) each = each q refl

  never_own : (last : ApartEnd) (vias : List ℕ) (c : ℕ) → is_apart_by items last vias (two_items c c) ≡ false
  never_own last [] c = own_end c last
  never_own last (k ∷ ks) c =
      by_next (is_apart_by items last ks) (next_pair items (two_items c c) k) (λ q e.
      let same = equal_lead (sections_of items) (target_of items c k) (target_of items c k) q refl e in
      let P : Pair → Type 0 = λ x. is_apart_by items last ks x ≡ false in
      subst P (ap (two_items q.one) same) (never_own last ks q.one))

  pub never_same : (last : ApartEnd) (vias : List ℕ) (p : Pair) → p.one ≡ p.two → is_apart_by items last vias p ≡ false
  never_same last vias p same = let P : Pair → Type 0 = λ x. is_apart_by items last vias x ≡ false in subst P (ap (two_items p.one) same) (never_own last vias p.one)

  -- what leads on
  pub leads_tell : (rest : Pair → Bool) (o : Option Pair) → leads_on rest o ≡ true → (q : Pair) × (o ≡ Some q) × (rest q ≡ true)
  leads_tell rest None e = absurd (true≢false (sym e))
  leads_tell rest (Some q) e = (q, refl, e)
