-- Folding: the leaders of items, one item after the other, and what holds of all leaders then.
use Rattle.std.proofs.Common.{◌≡◌, ◌≢◌, ℕ, zero, suc, ◌+◌, ◌<◌, ◌≤◌, ◌⊎◌, Bool, true, Option, Some, None, List, [], ◌∷◌, length, map, get_or, set, drop, All, refl, sym, ap, ◌∙◌, subst, arith, inl, inr, ⊎_elim}
use Rattle.std.specs.Prelude.{min}
use Rattle.std.specs.List.Sorted.{IsStrictlyIncreasing}
use Rattle.std.proofs.lemmas.Bool.{cases_eq, cases_lt}
use Rattle.std.proofs.lemmas.List.{length-set, length-map, get_or-map, get_or-set_same, get_or-set_other, drop_more, drop_all}
use Rattle.std.proofs.lemmas.List.Kept.{AllPairs-from_increasing}
use Rattle.link_sections.specs.declared.fold_items.FoldItem.{FoldItem as LentItem}
use Rattle.link_sections.specs.FoldItems.{FoldItem, item_view, item_views, section_of, sections_of}
use Rattle.link_sections.specs.Leaders.{fold_each, folded_leaders, is_kept, leader_at, leads, own_leaders, section_at}
use Rattle.link_sections.specs.PoolViews.{Merged}
use Rattle.link_sections.proofs.OwnLeaders.{LeadThemselves, kept_below, leads_at, own_count, own_is, same_number}

-- the section of an item, by its place
pub section_is : (items : List LentItem) (i : ℕ) (d : LentItem) → i < length items → (get_or items i d).section ≡ section_at (item_views items) i
section_is items i d lt =
    let long = length-map items item_view in
    sym (ap section_of (get_or-map item_view items i d (item_view d) lt))
    ∙ sym (get_or-map section_of (item_views items) i (item_view d) 0 (omega (arith, lt, long)))

-- one item more
pub fold_step : (views : List FoldItem) (ns ps : List ℕ) (i n p : ℕ) (old new : List (Option ℕ)) → i < length ns → i < length ps → n ≡ get_or ns i 0 → p ≡ get_or ps i 0 →
    new ≡ set old n (Some (section_at views p)) → fold_each views (drop (i + 1) ns) (drop (i + 1) ps) new ≡ fold_each views (drop i ns) (drop i ps) old
fold_step views ns ps i n p old new in_ns in_ps number place is =
    ap (λ l. fold_each views (drop (i + 1) ns) (drop (i + 1) ps) l) is
    ∙ ap (λ m. fold_each views (m ∷ drop (i + 1) ns) (p ∷ drop (i + 1) ps) old) number
    ∙ ap (λ q. fold_each views (get_or ns i 0 ∷ drop (i + 1) ns) (q ∷ drop (i + 1) ps) old) place
    ∙ sym (ap (λ qs. fold_each views (get_or ns i 0 ∷ drop (i + 1) ns) qs old) (drop_more ps i 0 in_ps))
    ∙ sym (ap (λ ms. fold_each views ms (drop i ps) old) (drop_more ns i 0 in_ns))

no_places : (views : List FoldItem) (ns : List ℕ) (l : List (Option ℕ)) → fold_each views ns [] l ≡ l
no_places views [] l = refl
no_places views (n ∷ ns) l = refl

-- so many turns there are
pub sections_wide : (items : List LentItem) → length (map section_of (item_views items)) ≡ length items
sections_wide items = length-map (item_views items) section_of ∙ length-map items item_view

pub fold_end : (views : List FoldItem) (ns ps : List ℕ) (i : ℕ) (l : List (Option ℕ)) → (length ns ≤ i) ⊎ (length ps ≤ i) → fold_each views (drop i ns) (drop i ps) l ≡ l
fold_end views ns ps i l past = ⊎_elim
    (λ (le : length ns ≤ i). ap (λ ms. fold_each views ms (drop i ps) l) (drop_all i ns le))
    (λ (le : length ps ≤ i). ap (λ qs. fold_each views (drop i ns) qs l) (drop_all i ps le) ∙ no_places views (drop i ns) l)
    past

pub past_one : (ns ps : List ℕ) (wide i : ℕ) → length ns ≡ wide → min wide (length ps) ≤ i → (length ns ≤ i) ⊎ (length ps ≤ i)
past_one ns ps wide i long past = elim (cases_lt i (length ns)) [
  | inl lt ↦ inr (omega (arith, lt, long, past))
  | inr le ↦ inl le
]

-- what all items do
module _ (views : List FoldItem) where
  folded_count : (ns ps : List ℕ) (l : List (Option ℕ)) → length (fold_each views ns ps l) ≡ length l
  folded_count [] ps l = refl
  folded_count (n ∷ ns) [] l = refl
  folded_count (n ∷ ns) (p ∷ ps) l = folded_count ns ps (set l n (Some (section_at views p))) ∙ length-set l n (Some (section_at views p))

  abbrev IsNone : (ns : List ℕ) (n : ℕ) → Type 0
  IsNone ns n = (k : ℕ) → k < length ns → get_or ns k 0 ≢ n

  -- a section of no item keeps its leader
  folded_other : (ns ps : List ℕ) (l : List (Option ℕ)) (n : ℕ) → IsNone ns n → leader_at (fold_each views ns ps l) n ≡ leader_at l n
  folded_other [] ps l n other = refl
  folded_other (m ∷ ns) [] l n other = refl
  folded_other (m ∷ ns) (p ∷ ps) l n other =
      folded_other ns ps (set l m (Some (section_at views p))) n (λ k lt. other (suc k) (omega (arith, lt)))
      ∙ get_or-set_other l m n (Some (section_at views p)) None (λ same. other 0 (omega arith) (sym same))

  abbrev Rise : List ℕ → Type 0
  Rise ns = (i j : ℕ) → i < j → j < length ns → get_or ns i 0 < get_or ns j 0

  -- that of item k has the section of the item at its place
  folded_at : (ns ps : List ℕ) (l : List (Option ℕ)) (k : ℕ) → Rise ns → k < length ns → k < length ps → get_or ns k 0 < length l →
      leader_at (fold_each views ns ps l) (get_or ns k 0) ≡ Some (section_at views (get_or ps k 0))
  folded_at [] ps l k rise in_ns in_ps below = absurd (omega (arith, in_ns))
  folded_at (n ∷ ns) [] l k rise in_ns in_ps below = absurd (omega (arith, in_ps))
  folded_at (n ∷ ns) (p ∷ ps) l zero rise in_ns in_ps below =
      folded_other ns ps (set l n (Some (section_at views p))) n (λ k lt same. omega (arith, rise 0 (suc k) (omega arith) (omega (arith, lt)), same))
      ∙ get_or-set_same l n (Some (section_at views p)) None below
  folded_at (n ∷ ns) (p ∷ ps) l (suc k) rise in_ns in_ps below =
      folded_at ns ps (set l n (Some (section_at views p))) k (λ i j less lt. rise (suc i) (suc j) (omega (arith, less)) (omega (arith, lt)))
      (omega (arith, in_ns)) (omega (arith, in_ps)) (omega (arith, below, length-set l n (Some (section_at views p))))

-- whether a number is in a list
record IsAt (ns : List ℕ) (n k : ℕ) : Type 0 where
  within : k < length ns
  is : get_or ns k 0 ≡ n

later : (m : ℕ) (ns : List ℕ) (n : ℕ) → m ≢ n → ((k : ℕ) × IsAt ns n k) ⊎ IsNone [] ns n → ((k : ℕ) × IsAt (m ∷ ns) n k) ⊎ IsNone [] (m ∷ ns) n
later m ns n apart found = ⊎_elim
    (λ (at : (k : ℕ) × IsAt ns n k). inl (suc at.0, record { within = omega (arith, at.1.within); is = at.1.is }))
    (λ (other : IsNone [] ns n). inr (λ k lt. other_of k lt other))
    found
  where
    other_of : (k : ℕ) → k < length (m ∷ ns) → IsNone [] ns n → get_or (m ∷ ns) k 0 ≢ n
    other_of zero lt other = apart
    other_of (suc k) lt other = other k (omega (arith, lt))

where_is : (ns : List ℕ) (n : ℕ) → ((k : ℕ) × IsAt ns n k) ⊎ IsNone [] ns n
where_is [] n = inr (λ k lt. absurd (omega (arith, lt)))
where_is (m ∷ ns) n = ⊎_elim
    (λ (same : m ≡ n). inl (0, record { within = omega arith; is = same }))
    (λ (apart : m ≢ n). later m ns n apart (where_is ns n))
    (cases_eq m n)

-- for each of n items the place of the one that leads it, which is its own leader
pub record LeadItems (n : ℕ) (places : List ℕ) : Type 0 where
  pub count : length places ≡ n
  pub within : (a : ℕ) → a < n → get_or places a 0 < n
  pub own : (a : ℕ) → a < n → get_or places (get_or places a 0) 0 ≡ get_or places a 0

module _ (kept : List Bool) (merged : List (Option Merged)) (items : List FoldItem) (places : List ℕ)
    (order : IsStrictlyIncreasing (sections_of items)) (kept_are : All (λ n. is_kept kept n ≡ true) (sections_of items)) (lead : LeadItems (length items) places) where
  abbrev ns : List ℕ
  ns = map section_of items

  abbrev own : List (Option ℕ)
  own = own_leaders kept merged

  abbrev all : List (Option ℕ)
  all = fold_each items ns places own

  wide : length ns ≡ length items
  wide = length-map items section_of

  rise : Rise items ns
  unfolding sections_of
  rise i j less lt = AllPairs-from_increasing ns order i j 0 less lt

  kept_at : (k : ℕ) → k < length items → is_kept kept (get_or ns k 0) ≡ true
  unfolding sections_of
  kept_at k lt = kept_are k 0 (omega (arith, lt, wide))

  item_leads : (k : ℕ) → k < length items → leader_at all (get_or ns k 0) ≡ Some (get_or ns (get_or places k 0) 0)
  item_leads k lt =
      folded_at items ns places own k rise (omega (arith, lt, wide)) (omega (arith, lt, lead.count))
      (omega (arith, kept_below kept (get_or ns k 0) (kept_at k lt), own_count kept merged))

  -- the leader of an item is its own leader, and is kept
  of_item : (k m : ℕ) → k < length items → leader_at all (get_or ns k 0) ≡ Some m → (is_kept kept m ≡ true) × (leads all m ≡ true)
  of_item k m lt leader =
      let p = get_or places k 0 in
      let below = lead.within k lt in
      let same : get_or ns p 0 ≡ m = same_number (get_or ns p 0) m (sym (item_leads k lt) ∙ leader) in
      let P : ℕ → Type 0 = λ x. (is_kept kept x ≡ true) × (leads all x ≡ true) in
      subst P same (kept_at p below, leads_at all (get_or ns p 0) (item_leads p below ∙ ap (λ q. Some (get_or ns q 0)) (lead.own k lt)))

  of_other : (n m : ℕ) → IsNone items ns n → leader_at all n ≡ Some m → (is_kept kept m ≡ true) × (leads all m ≡ true)
  of_other n m other leader =
      let before = sym (folded_other items ns places own n other) ∙ leader in
      let it = own_is kept merged n m before in
      let P : ℕ → Type 0 = λ k. is_kept kept k ≡ true in
      let Q : ℕ → Type 0 = λ k. leader_at all k ≡ Some m in
      (subst P it.1 it.0, leads_at all m (subst Q it.1 leader))

  of_each : (n m : ℕ) → leader_at all n ≡ Some m → (is_kept kept m ≡ true) × (leads all m ≡ true)
  of_each n m leader = ⊎_elim
      (λ (at : (k : ℕ) × IsAt ns n k).
      let P : ℕ → Type 0 = λ x. leader_at all x ≡ Some m in
      of_item at.0 m (omega (arith, at.1.within, wide)) (subst P (sym at.1.is) leader))
      (λ (other : IsNone items ns n). of_other n m other leader)
      (where_is ns n)

  -- of all leaders each is kept and is its own leader
  pub folded_lead : LeadThemselves kept (folded_leaders items places (own_leaders kept merged))
  unfolding folded_leaders
  folded_lead = record {
    count = folded_count items ns places own ∙ own_count kept merged;
    kept_are = λ n m leader. (of_each n m leader).0;
    own = λ n m leader. (of_each n m leader).1;
  }
