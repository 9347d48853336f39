-- The turn of a class: its members, the words of what leads to them, and what a split by these says.
use Rattle.std.proofs.Common.{◌≡◌, ◌≢◌, ℕ, ◌%◌, ◌<◌, ◌≤◌, ◌==◌, ◌^◌, Bool, true, List, [], length, flat_map, get_or, set, Contains, sym, ap, ◌∙◌, subst, ⊎_elim, arith}
use Rattle.std.specs.Prelude.{All}
use Rattle.std.specs.Global.{Vec}
use Rattle.std.specs.List.{filter}
use Rattle.std.proofs.lemmas.Bool.{cases_eq, cases_lt, eq-eqb, eqb-true}
use Rattle.std.proofs.lemmas.Grind.{get_or_default_zero}
use Rattle.std.proofs.lemmas.List.{get_or-map, get_or-set_other, get_or-set_same, get_or_past, length-map, length-set, map-set}
use Rattle.std.proofs.lemmas.List.Elements.{All-contains, filter_passes}
use Rattle.lk_base.proofs.Membership.{from_filter, from_flat, in_filter, in_flat}
use Rattle.icf_part.specs.declared.classes.Classes.{Classes}
use Rattle.icf_part.specs.Classes.{AreKept, ArePlacesSplit, IsKept, lists_of, word}
use Rattle.icf_part.specs.Edges.{AreInto, IsTurned, end_at}
use Rattle.icf_part.specs.Signatures.{end_classes}
use Rattle.icf_part.proofs.Listed.{has_at}

-- the members of a class
pub record AreMembers (n label : ℕ) (labels own : List ℕ) : Type 0 where
  pub all : (a : ℕ) → a < n → get_or labels a 0 ≡ label → Contains own a
  pub only : (a : ℕ) → Contains own a → a < n
  pub have : (a : ℕ) → Contains own a → get_or labels a 0 ≡ label

-- the list of one class is made anew
pub with_members : (n label : ℕ) (labels sizes own : List ℕ) (members : List (List ℕ)) (waits : List Bool) (queue : List ℕ) → IsKept n labels sizes members waits queue →
    label < length sizes → AreMembers n label labels own → IsKept n labels sizes (set members label own) waits queue
with_members n label labels sizes own members waits queue kept lt are =
    let lists = kept.member_lists in
    let long = length-set members label own in
    let low : label < length members = omega (arith, lt, lists) in
    record {
      wide = kept.wide;
      below = kept.below;
      counted = kept.counted;
      member_lists = long ∙ lists;
      listed = λ a la. let P : List ℕ → Type 0 = λ l. Contains l a in ⊎_elim
          (λ (here : get_or labels a 0 ≡ label). subst P (sym (ap (λ k. get_or (set members label own) k []) here ∙ get_or-set_same members label own [] low)) (are.all a la here))
          (λ (other : get_or labels a 0 ≢ label). subst P (sym (get_or-set_other members label (get_or labels a 0) own [] other)) (kept.listed a la))
          (cases_eq (get_or labels a 0) label);
      within = λ k a has. let P : List ℕ → Type 0 = λ l. Contains l a in ⊎_elim
          (λ (here : k ≡ label). are.only a (subst P (ap (λ j. get_or (set members label own) j []) here ∙ get_or-set_same members label own [] low) has))
          (λ (other : k ≢ label). kept.within k a (subst P (get_or-set_other members label k own [] other) has))
          (cases_eq k label);
      marks = kept.marks;
      queued = kept.queued;
      inside = kept.inside;
      room = kept.room;
    }

none_in : {X : Type 0} (x : X) → Contains [] x → ⊥
none_in x (k, lt, e) = omega arith

module _ (ends into : List (List ℕ)) (label : ℕ) (labels own : List ℕ) (are_into : AreInto ends into) (are : AreMembers (length ends) label labels own) (few : length ends < 2 ^ 31) where
  edges : ℕ → List ℕ
  edges t = get_or into t []

  end_within : (a k : ℕ) → a < length ends → k < length (get_or ends a []) → end_at ends a k < length ends
  end_within a k la lk = ⊎_elim
      (λ (lt : end_at ends a k < length into). omega (arith, lt, are_into.count))
      (λ (past : length into ≤ end_at ends a k).
      let P : List ℕ → Type 0 = λ l. Contains l (word k a) in
      absurd (none_in (word k a) (subst P (get_or_past into (end_at ends a k) [] past) (are_into.all a k la lk))))
      (cases_lt (end_at ends a k) (length into))

  leads : (k a : ℕ) → a < length ends → k < length (get_or ends a []) → get_or labels (end_at ends a k) 0 ≡ label → Contains (flat_map (λ t. get_or into t []) own) (word k a)
  leads k a la lk e = in_flat (λ t. get_or into t []) own (end_at ends a k) (word k a) (are.all (end_at ends a k) (end_within a k la lk) e) (are_into.all a k la lk)

  place : (k a : ℕ) → a < length ends → Contains (flat_map (λ t. get_or into t []) own) (word k a) → (k < length (get_or ends a [])) × (get_or labels (end_at ends a k) 0 ≡ label)
  place k a la has =
      let from = from_flat (λ t. get_or into t []) own (word k a) has in
      let told = are_into.only from.x k a (omega (arith, la, few)) from.part in
      (told.1.0, ap (λ t. get_or labels t 0) told.1.1 ∙ are.have from.x from.listed)

  goes_along : (a b : ℕ) → a < length ends → b < length ends → end_classes labels ends a ≡ end_classes labels ends b → (k : ℕ) →
      Contains (flat_map (λ t. get_or into t []) own) (word k a) → Contains (flat_map (λ t. get_or into t []) own) (word k b)
  unfolding end_classes
  goes_along a b la lb e k has =
      let at : ℕ → ℕ = λ t. get_or labels t 0 in
      let one = place k a la has in
      let wide : length (get_or ends a []) ≡ length (get_or ends b []) = sym (length-map (get_or ends a []) at) ∙ ap length e ∙ length-map (get_or ends b []) at in
      let lk : k < length (get_or ends b []) = omega (arith, one.0, wide) in
      leads k b lb lk (sym (get_or-map at (get_or ends b []) k 0 0 lk) ∙ sym (ap (λ l. get_or l k 0) e) ∙ get_or-map at (get_or ends a []) k 0 0 one.0 ∙ one.1)

  pub turned : (next : List ℕ) → ArePlacesSplit (length ends) (flat_map (λ t. get_or into t []) own) labels next → IsTurned ends label labels next
  turned next split = record {
    there = λ k a b la lb e lk is. (place k b lb (split.apart k a b la lb e (leads k a la lk is))).0;
    apart = λ k a b la lb e lk is. (place k b lb (split.apart k a b la lb e (leads k a la lk is))).1;
    together = λ a b la lb e own_is. split.together a b la lb (goes_along a b la lb e) (goes_along b a lb la (sym e)) own_is;
  }

-- the members are those of the list that have the label
pub members_are : (n label : ℕ) (labels sizes list own : List ℕ) (members : List (List ℕ)) (waits : List Bool) (queue : List ℕ) → IsKept n labels sizes members waits queue →
    list ≡ get_or members label [] → own ≡ filter (λ a. get_or labels a 0 == label) list → AreMembers n label labels own
members_are n label labels sizes list own members waits queue kept list_is own_is =
    let test : ℕ → Bool = λ a. get_or labels a 0 == label in
    let In : ℕ → List ℕ → Type 0 = λ a l. Contains l a in
    let passed = filter_passes test list in
    record {
      all = λ a la e.
          let listed = kept.listed a la in
          let P : ℕ → Type 0 = λ k. Contains (get_or members k []) a in
          let Q : List ℕ → Type 0 = In a in
          subst Q (sym own_is) (in_filter test list a (subst Q (sym list_is) (subst P e listed)) (eq-eqb (get_or labels a 0) label e));
      only = λ a has. let Q : List ℕ → Type 0 = In a in kept.within label a (subst Q list_is (from_filter test list a (subst Q own_is has)));
      have = λ a has. let Q : List ℕ → Type 0 = In a in eqb-true (get_or labels a 0) label (All-contains (λ x. test x ≡ true) (filter test list) a passed (subst Q own_is has));
    }

pub all_within : (n : ℕ) (list : List ℕ) → ((a : ℕ) → Contains list a → a < n) → All (λ a. a < n) list
all_within n list within = λ k d lt. within (get_or list k d) (has_at list (get_or list k d) k lt (sym (get_or_default_zero list k d lt)))

-- the words, in another order
pub places_sorted : (n : ℕ) (words sorted old new : List ℕ) → ((w : ℕ) → Contains words w → Contains sorted w) → ((w : ℕ) → Contains sorted w → Contains words w) →
    ArePlacesSplit n sorted old new → ArePlacesSplit n words old new
places_sorted n words sorted old new all only split = record {
  apart = λ k a b la lb e has. only (word k b) (split.apart k a b la lb e (all (word k a) has));
  together = λ a b la lb there back e.
      split.together a b la lb (λ k has. all (word k b) (there k (only (word k a) has))) (λ k has. all (word k a) (back k (only (word k b) has))) e;
}

-- each word is of an item
pub words_within : (n : ℕ) (into : List (List ℕ)) (own sorted : List ℕ) → ((t w : ℕ) → Contains (get_or into t []) w → w % 2 ^ 32 < n) →
    ((w : ℕ) → Contains sorted w → Contains (flat_map (λ t. get_or into t []) own) w) → (w : ℕ) → Contains sorted w → w % 2 ^ 32 < n
words_within n into own sorted within only w has =
    let from = from_flat (λ t. get_or into t []) own w (only w has) in
    within from.x w from.part

pub turned_by : (n : ℕ) (ends into : List (List ℕ)) (label : ℕ) (labels own next sorted : List ℕ) → length into ≡ n → n < 2 ^ 31 → AreInto ends into → AreMembers n label labels own →
    ((w : ℕ) → Contains (flat_map (λ t. get_or into t []) own) w → Contains sorted w) → ((w : ℕ) → Contains sorted w → Contains (flat_map (λ t. get_or into t []) own) w) →
    ArePlacesSplit n sorted labels next → IsTurned ends label labels next
turned_by n ends into label labels own next sorted wide few are_into are all only split =
    let e : n ≡ length ends = sym wide ∙ are_into.count in
    let M : ℕ → Type 0 = λ k. AreMembers k label labels own in
    let S : ℕ → Type 0 = λ k. ArePlacesSplit k (flat_map (λ t. get_or into t []) own) labels next in
    turned ends into label labels own are_into (subst M e are) (omega (arith, e, few)) next
    (subst S e (places_sorted n (flat_map (λ t. get_or into t []) own) sorted labels next all only split))

-- the list of a class, as it stands in the columns
pub kept_members : (n label : ℕ) (c : Classes) (own : Vec ℕ) → AreKept n c → label < length c.sizes.items → AreMembers n label c.labels.items own.items →
    IsKept n c.labels.items c.sizes.items (lists_of (set c.members.items label own)) c.waits.items c.queue.items
kept_members n label c own kept lt are =
    let e : lists_of (set c.members.items label own) ≡ set (lists_of c.members.items) label own.items = map-set (λ (list : Vec ℕ). list.items) c.members.items label own in
    let P : List (List ℕ) → Type 0 = λ l. IsKept n c.labels.items c.sizes.items l c.waits.items c.queue.items in
    subst P (sym e) (with_members n label c.labels.items c.sizes.items own.items (lists_of c.members.items) c.waits.items c.queue.items kept lt are)
