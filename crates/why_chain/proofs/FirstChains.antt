-- Chains as lists that lead from a pair, the first end of a pair, and the first chain of all.
use Rattle.std.proofs.Common.{◌≡◌, ◌⊎◌, ℕ, zero, suc, ◌+◌, ◌*◌, ◌<◌, ◌≤◌, ◌&&◌, not, ltb, Bool, true, false, cond, Option, Some, None, IfSome, is_some, List, [], ◌∷◌, ◌++◌, length, map, flat_map, find, get_or, option_map, option_and_then, All, refl, sym, ap, ◌∙◌, subst, inl, inr, lt-ltb, ltb-true, le-ltb, arith}
use mathlib.Core.Path.{fun_ext}
use Rattle.std.specs.List.{range_with_len}
use Rattle.std.specs.Option.{option_or}
use Rattle.std.proofs.lemmas.Bool.{and_from, and_left, and_parts, and_right, cases_lt, cond-false, cond-true, false_from_ne_true, not-true, true≢false}
use Rattle.std.proofs.lemmas.List.{length-append}
use Rattle.std.proofs.lemmas.List.Elements.{All-cons, All-nil}
use Rattle.std.proofs.lemmas.List.Folds.{find-append}
use Rattle.std.proofs.lemmas.List.FromFn.{get_or-range_with_len, length-range_with_len}
use Rattle.std.proofs.lemmas.Option.{none-some, option_and_then_some, same_Some}
use Rattle.link_sections.specs.FoldItems.{FoldItem, sections_of}
use Rattle.link_sections.proofs.SameTargets.{target_Decides}
use Rattle.lk_tables.proofs.Finding.{find_nothing, first_number}
use Rattle.icf_part.specs.Folding.{item_at}
use Rattle.icf_part.specs.Leaders.{same_target}
use Rattle.why_chain.specs.declared.chains.ApartEnd.{ApartEnd}
use Rattle.why_chain.specs.declared.chains.ApartEnd.TheVariants as ends
use Rattle.why_chain.specs.declared.pairs.Pair.{Pair}
use Rattle.why_chain.specs.Aparts.{Chain, IsLeastApart, all_chains, all_ends, apart_chain, are_alike, chain, chains_by, end_number, first_end, first_target, is_apart, is_apart_by, is_end, leads_on, next_pair, no_match, number_end, numbers_of, reloc_count, target_of, two_items}
use Rattle.why_chain.specs.Meetings.{new_pair}
use Rattle.why_chain.specs.ShortLists.{ComesBefore, NotAfter, short_lists}
use Rattle.why_chain.proofs.Firsts.{find_mapped, find_none, first_short}
use Rattle.why_chain.proofs.Orders.{comes_append, comes_behind, comes_or_same, no_longer}
use Rattle.why_chain.proofs.Pairing.{equal_lead, leads_tell, never_same, next_inside, next_there}
use Rattle.why_chain.proofs.Searching.{after}

-- what `find` tells over numbers
pub record IsFirst (p : ℕ → Bool) (from end k : ℕ) : Type 0 where
  pub low : from ≤ k
  pub inside : k < end
  pub passes : p k ≡ true
  pub before : (j : ℕ) → from ≤ j → j < k → p j ≡ false

tells_by : (p : ℕ → Bool) (from len k : ℕ) (b : Bool) → p from ≡ b → cond b (Some from) (find p (range_with_len (from + 1) len)) ≡ Some k
    → (find p (range_with_len (from + 1) len) ≡ Some k → IsFirst p (from + 1) ((from + 1) + len) k) → IsFirst p from (from + suc len) k
tells_by p from len k true is e rest =
    let here : from ≡ k = same_Some from k e in
    record { low = omega arith; inside = omega arith; passes = ap p (sym here) ∙ is; before = λ j low less. absurd (omega arith) }
tells_by p from len k false is e rest =
    let later = rest e in
    record {
      low = omega (arith, later.low);
      inside = omega (arith, later.inside);
      passes = later.passes;
      before = λ j low less. elim (cases_lt from j) [
        | inl under ↦ later.before j (omega arith) less
        | inr over ↦ let here : j ≡ from = omega arith in ap p here ∙ is
      ];
    }

find_tells : (p : ℕ → Bool) (from len k : ℕ) → find p (range_with_len from len) ≡ Some k → IsFirst p from (from + len) k
find_tells p from zero k e = absurd (none-some k e)
find_tells p from (suc len) k e = tells_by p from len k (p from) refl e (find_tells p (from + 1) len k)

pub find_is : (p : ℕ → Bool) (n k : ℕ) → find p (range_with_len 0 n) ≡ Some k → IsFirst p 0 (0 + n) k
find_is p n k e = find_tells p 0 n k e

fails_by : (p : ℕ → Bool) (from len : ℕ) (b : Bool) → p from ≡ b → cond b (Some from) (find p (range_with_len (from + 1) len)) ≡ None
    → (find p (range_with_len (from + 1) len) ≡ None → (i : ℕ) → from + 1 ≤ i → i < (from + 1) + len → p i ≡ false) → (j : ℕ) → from ≤ j → j < from + suc len → p j ≡ false
fails_by p from len true is e rest j low less = absurd (none-some from (sym e))
fails_by p from len false is e rest j low less = elim (cases_lt from j) [
  | inl under ↦ rest e j (omega arith) (omega arith)
  | inr over ↦ let here : j ≡ from = omega arith in ap p here ∙ is
]

find_fails : (p : ℕ → Bool) (from len : ℕ) → find p (range_with_len from len) ≡ None → (j : ℕ) → from ≤ j → j < from + len → p j ≡ false
find_fails p from zero e j low less = absurd (omega arith)
find_fails p from (suc len) e j low less = fails_by p from len (p from) refl e (find_fails p (from + 1) len) j low less

-- a test that no number past n passes
abbrev below : (ℕ → Bool) → ℕ → ℕ → Bool
below r n k = ltb k n && r k

below_by : (r : ℕ → Bool) (n bound : ℕ) → n ≤ bound → (o : Option ℕ) → find r (range_with_len 0 n) ≡ o → find (below r n) (range_with_len 0 bound) ≡ o
below_by r n bound most (Some k) e =
    let is = find_is r n k e in
    let inside : k < n = omega (arith, is.inside) in
    first_number (below r n) bound k (omega arith)
    (λ j less. and_right (ltb j n) (r j) (is.before j (omega arith) less))
    (and_from (ltb k n) (r k) (lt-ltb k n inside) is.passes)
below_by r n bound most None e =
    find_nothing (below r n) (range_with_len 0 bound) 0 (λ i less.
    let inside : i < bound = omega (arith, less, length-range_with_len 0 bound) in
    let read = get_or-range_with_len 0 bound i 0 inside in
    let here : get_or (range_with_len 0 bound) i 0 ≡ i = omega arith in
    ap (below r n) here ∙ elim (cases_lt i n) [
      | inl low ↦ and_right (ltb i n) (r i) (find_fails r 0 n e i (omega arith) (omega arith))
      | inr past ↦ and_left (ltb i n) (r i) (le-ltb i n past)
    ])

find_below : (r : ℕ → Bool) (n bound : ℕ) → n ≤ bound → find (below r n) (range_with_len 0 bound) ≡ find r (range_with_len 0 n)
find_below r n bound most = below_by r n bound most (find r (range_with_len 0 n)) refl

-- of lists that are made of the elements of a list: the first of all stands in the first that has one
abbrev has_one : {X Y : Type 0} → (Y → Bool) → (X → List Y) → X → Bool
has_one P g x = is_some (find P (g x))

through_by : {X Y : Type 0} (P : Y → Bool) (g : X → List Y) (x : X) (rest : Option Y) (q : Option X) (o : Option Y) → find P (g x) ≡ o
    → rest ≡ option_and_then (λ w. find P (g w)) q → option_or o rest ≡ option_and_then (λ w. find P (g w)) (cond (is_some o) (Some x) q)
through_by P g x rest q None e later = later
through_by P g x rest q (Some y) e later = sym e

find_through : {X Y : Type 0} (P : Y → Bool) (g : X → List Y) (xs : List X) → find P (flat_map g xs) ≡ option_and_then (λ w. find P (g w)) (find (has_one P g) xs)
find_through P g [] = refl
find_through P g (x ∷ xs) = find-append P (g x) (flat_map g xs) ∙ through_by P g x (find P (flat_map g xs)) (find (has_one P g) xs) (find P (g x)) refl (find_through P g xs)

-- what is found passes
passes_by : {X : Type 0} (P : X → Bool) (y x : X) (rest : Option X) (b : Bool) → P y ≡ b → cond b (Some y) rest ≡ Some x → (rest ≡ Some x → P x ≡ true) → P x ≡ true
passes_by P y x rest true is e later = let here : y ≡ x = same_Some y x e in ap P (sym here) ∙ is
passes_by P y x rest false is e later = later e

found_passes : {X : Type 0} (P : X → Bool) (xs : List X) (x : X) → find P xs ≡ Some x → P x ≡ true
found_passes P [] x e = absurd (none-some x e)
found_passes P (y ∷ xs) x e = passes_by P y x (find P xs) (P y) refl e (found_passes P xs x)

some_from : {X : Type 0} (o : Option X) → is_some o ≡ true → (x : X) × (o ≡ Some x)
some_from None e = absurd (true≢false (sym e))
some_from (Some x) e = (x, refl)

none_of_map : {X Y : Type 0} (f : X → Y) (o : Option X) → option_map f o ≡ None → o ≡ None
none_of_map f None e = refl
none_of_map f (Some x) e = absurd (none-some (f x) (sym e))

some_of_map : {X Y : Type 0} (f : X → Y) (o : Option X) (y : Y) → option_map f o ≡ Some y → (x : X) × (o ≡ Some x) × (f x ≡ y)
some_of_map f None y e = absurd (none-some y e)
some_of_map f (Some x) y e = (x, refl, same_Some (f x) y e)

-- the first end by its parts
alike_none : (b : Bool) (o : Option ApartEnd) → cond b o (Some ends.Key) ≡ None → (b ≡ true) × (o ≡ None)
alike_none true o e = (refl, e)
alike_none false o e = absurd (none-some ends.Key (sym e))

not_none : (b : Bool) (o : Option Pair) (q : Pair) → cond b None o ≡ Some q → o ≡ Some q
not_none true o q e = absurd (none-some q e)
not_none false o q e = e

-- an item's relocations are among those of all
of_list : (items : List FoldItem) (a : ℕ) → length (item_at items a).relocs ≤ number_end items
of_list [] a = omega arith
of_list (i ∷ items) zero = omega (arith, length-append i.relocs (flat_map (λ (j : FoldItem). j.relocs) items))
of_list (i ∷ items) (suc a) = omega (arith, of_list items a, length-append i.relocs (flat_map (λ (j : FoldItem). j.relocs) items))

module _ (items : List FoldItem) where
  -- of all ends that a pair has the first one
  ends_by : (q : Pair) → reloc_count items q ≤ number_end items → (b : Bool) → are_alike items q ≡ b → find (is_end items q) (all_ends (number_end items)) ≡ first_end items q
  unfolding first_end first_target
  ends_by q most true is =
      let bound = number_end items in
      let n = reloc_count items q in
      let r : ℕ → Bool = no_match items q in
      ap (λ b. cond (not b) (Some ends.Key) (find (is_end items q) (map ends.Target (range_with_len 0 bound)))) is
      ∙ find_mapped (is_end items q) ends.Target (range_with_len 0 bound)
      ∙ ap (λ (p : ℕ → Bool). option_map ends.Target (find p (range_with_len 0 bound))) (fun_ext (λ k. ap (λ b. b && (ltb k n && r k)) is))
      ∙ ap (option_map ends.Target) (find_below r n bound most)
      ∙ sym (cond-true (are_alike items q) (option_map ends.Target (find r (range_with_len 0 n))) (Some ends.Key) is)
  ends_by q most false is =
      ap (λ b. cond (not b) (Some ends.Key) (find (is_end items q) (map ends.Target (range_with_len 0 (number_end items))))) is
      ∙ sym (cond-false (are_alike items q) (option_map ends.Target (find (no_match items q) (range_with_len 0 (reloc_count items q)))) (Some ends.Key) is)

  pub ends_find : (q : Pair) → reloc_count items q ≤ number_end items → find (is_end items q) (all_ends (number_end items)) ≡ first_end items q
  ends_find q most = ends_by q most (are_alike items q) refl

  -- a pair without a first end: its keys are equal, and all its targets can match
  pub record IsNoEnd (q : Pair) : Type 0 where
    pub alike : are_alike items q ≡ true
    pub targets : (k : ℕ) → k < reloc_count items q → no_match items q k ≡ false

  pub no_first : (q : Pair) → first_end items q ≡ None → IsNoEnd q
  unfolding first_end first_target
  no_first q none =
      let parts = alike_none (are_alike items q) (option_map ends.Target (find (no_match items q) (range_with_len 0 (reloc_count items q)))) none in
      record {
        alike = parts.0;
        targets = λ k less. find_fails (no_match items q) 0 (reloc_count items q) (none_of_map ends.Target _ parts.1) k (omega arith) (omega arith);
      }

  not_end : (q : Pair) (last : ApartEnd) → IsNoEnd q → is_end items q last ≡ true → ⊥
  not_end q ends.Key without e = true≢false (sym without.alike ∙ not-true (are_alike items q) e)
  not_end q (ends.Target k) without e =
      let parts = and_parts (are_alike items q) (ltb k (reloc_count items q) && no_match items q k) e in
      let more = and_parts (ltb k (reloc_count items q)) (no_match items q k) parts.1 in
      true≢false (sym more.1 ∙ without.targets k (ltb-true k (reloc_count items q) more.0))

  -- a pair with an end has a first one
  first_by : (q : Pair) (last : ApartEnd) → is_end items q last ≡ true → (o : Option ApartEnd) → first_end items q ≡ o → (first : ApartEnd) × (first_end items q ≡ Some first)
  first_by q last e None is = absurd (not_end q last (no_first q is) e)
  first_by q last e (Some first) is = (first, is)

  pub has_first : (q : Pair) (last : ApartEnd) → is_end items q last ≡ true → (first : ApartEnd) × (first_end items q ≡ Some first)
  has_first q last e = first_by q last e (first_end items q) refl

  -- no other has a lesser number
  end_after : (q : Pair) (first last : ApartEnd) → (b : Bool) → are_alike items q ≡ b → first_end items q ≡ Some first → is_end items q last ≡ true
      → (last ≡ first) ⊎ ComesBefore (end_number first) (end_number last)
  unfolding first_end first_target
  end_after q first ends.Key true alike is e = absurd (true≢false (sym alike ∙ not-true (are_alike items q) e))
  end_after q first (ends.Target k) true alike is e =
      let parts = and_parts (are_alike items q) (ltb k (reloc_count items q) && no_match items q k) e in
      let more = and_parts (ltb k (reloc_count items q)) (no_match items q k) parts.1 in
      let targets = option_map ends.Target (find (no_match items q) (range_with_len 0 (reloc_count items q))) in
      let own : targets ≡ Some first = sym (cond-true (are_alike items q) targets (Some ends.Key) alike) ∙ is in
      let found = some_of_map ends.Target (find (no_match items q) (range_with_len 0 (reloc_count items q))) first own in
      let least = find_is (no_match items q) (reloc_count items q) found.0 found.1 in
      let P : ApartEnd → Type 0 = λ f. (ends.Target k ≡ f) ⊎ ComesBefore (end_number f) (k ∷ []) in
      subst P found.2 (elim (cases_lt k found.0) [
        | inl under ↦ absurd (true≢false (sym more.1 ∙ least.before k (omega arith) under))
        | inr over ↦ elim (cases_lt found.0 k) [
          | inl less ↦ inr (inl less)
          | inr most ↦ let same : k ≡ found.0 = omega arith in inl (ap ends.Target same)
        ]
      ])
  end_after q first ends.Key false apart is e =
      let targets = option_map ends.Target (find (no_match items q) (range_with_len 0 (reloc_count items q))) in
      inl (same_Some ends.Key first (sym (cond-false (are_alike items q) targets (Some ends.Key) apart) ∙ is))
  end_after q first (ends.Target k) false apart is e =
      let parts = and_parts (are_alike items q) (ltb k (reloc_count items q) && no_match items q k) e in
      absurd (true≢false (sym parts.0 ∙ apart))

  -- the relocations of an item are among all
  pub count_low : (a : ℕ) → length (item_at items a).relocs ≤ number_end items
  count_low a = of_list items a

  -- where a relocation leads on, equal targets apart
  pub new_tells : (p q : Pair) (k : ℕ) → new_pair items p k ≡ Some q → next_pair items p k ≡ Some q
  unfolding new_pair
  new_tells p q k e = not_none (same_target (target_of items p.one k) (target_of items p.two k)) (next_pair items p k) q e

  pub new_within : (p : Pair) (k n : ℕ) → length items ≡ n → (o : Option Pair) → o ≡ new_pair items p k → IfSome o (λ q. (q.one < n) × (q.two < n))
  new_within p k n wide None e = tt
  new_within p k n wide (Some q) e =
      let inside = next_inside items p q k (new_tells p q k (sym e)) in
      (omega (arith, inside.0, wide), omega (arith, inside.1, wide))

  pub new_there : (p q : Pair) (k : ℕ) → same_target (target_of items p.one k) (target_of items p.two k) ≡ false → next_pair items p k ≡ Some q → new_pair items p k ≡ Some q
  unfolding new_pair
  new_there p q k other e = cond-false (same_target (target_of items p.one k) (target_of items p.two k)) None (next_pair items p k) other ∙ e

  -- chains, and lists that lead to a pair with such an end
  pub to_apart : (last : ApartEnd) (vias : List ℕ) (p q : Pair) → after (new_pair items) p vias ≡ Some q → is_apart_by items last vias p ≡ is_end items q last
  to_apart last [] p q e = ap (λ (x : Pair). is_end items x last) (same_Some p q e)
  to_apart last (k ∷ ks) p q e =
      option_and_then_some (λ t. after (new_pair items) t ks) (new_pair items p k) q e (λ t there rest.
      ap (leads_on (is_apart_by items last ks)) (new_tells p t k there) ∙ to_apart last ks t q rest)

  pub record Leads (last : ApartEnd) (vias : List ℕ) (p : Pair) : Type 0 where
    pub end : Pair
    pub leads : after (new_pair items) p vias ≡ Some end
    pub is_last : is_end items end last ≡ true

  pub from_apart : (last : ApartEnd) (vias : List ℕ) (p : Pair) → is_apart_by items last vias p ≡ true → Leads last vias p
  from_apart last [] p e = record { end = p; leads = refl; is_last = e }
  from_apart last (k ∷ ks) p e =
      let on = leads_tell items (is_apart_by items last ks) (next_pair items p k) e in
      let rest = from_apart last ks on.0 on.2 in
      let t = target_of items p.one k in
      let u = target_of items p.two k in
      let other : same_target t u ≡ false = false_from_ne_true (same_target t u) (λ same.
      let one = equal_lead (sections_of items) t u on.0 ((target_Decides t u).0 same) on.1 in
      true≢false (sym on.2 ∙ never_same items last ks on.0 one)) in
      record {
        end = rest.end;
        leads = ap (option_and_then (λ x. after (new_pair items) x ks)) (new_there p on.0 k other on.1) ∙ rest.leads;
        is_last = rest.is_last;
      }

  -- each number of a list that leads on is one of a relocation
  pub vias_low : (vias : List ℕ) (p q : Pair) → after (new_pair items) p vias ≡ Some q → All (λ k. k < number_end items) vias
  vias_low [] p q e = All-nil (λ (k : ℕ). k < number_end items)
  vias_low (k ∷ ks) p q e =
      option_and_then_some (λ t. after (new_pair items) t ks) (new_pair items p k) q e (λ t there rest.
      let low = next_there items p t k (new_tells p t k there) in
      All-cons (λ (j : ℕ). j < number_end items) k ks (omega (arith, low, count_low p.one)) (vias_low ks t q rest))

  -- one list leads to one pair
  one_pair : (p q r : Pair) (vias others : List ℕ) → others ≡ vias → after (new_pair items) p vias ≡ Some q → after (new_pair items) p others ≡ Some r → q ≡ r
  one_pair p q r vias others same e f = same_Some q r (sym e ∙ sym (ap (after (new_pair items) p) same) ∙ f)

-- a list to a pair with an end, which no other such list comes before
module _ (items : List FoldItem) (a b : ℕ) (vias : List ℕ) (q : Pair) (last : ApartEnd)
    (leads : after (new_pair items) (two_items a b) vias ≡ Some q) (is_first : first_end items q ≡ Some last)
    (least : (others : List ℕ) (r : Pair) (l : ApartEnd) → after (new_pair items) (two_items a b) others ≡ Some r → first_end items r ≡ Some l → NotAfter vias others)
    (short : length vias < length items * length items) where
  row_finds : find (is_apart items (two_items a b)) (chains_by (number_end items) vias) ≡ Some (chain vias last)
  row_finds =
      let bound = number_end items in
      find_mapped (is_apart items (two_items a b)) (chain vias) (all_ends bound)
      ∙ ap (λ (p : ApartEnd → Bool). option_map (chain vias) (find p (all_ends bound))) (fun_ext (λ e. to_apart items e vias (two_items a b) q leads))
      ∙ ap (option_map (chain vias)) (ends_find items q (count_low items q.one) ∙ is_first)

  not_before : (last : ApartEnd) (others : List ℕ) → is_apart_by items last others (two_items a b) ≡ true → NotAfter vias others
  not_before l others e =
      let lead = from_apart items l others (two_items a b) e in
      let first = has_first items lead.end l lead.is_last in
      least others lead.end first.0 lead.leads first.1

  others_after : (others : List ℕ) → has_one (is_apart items (two_items a b)) (chains_by (number_end items)) others ≡ true → NotAfter vias others
  others_after others e =
      let bound = number_end items in
      let found = some_from (find (is_apart items (two_items a b)) (chains_by bound others)) e in
      let mapped = some_of_map (chain others) (find (λ l. is_apart items (two_items a b) (chain others l)) (all_ends bound)) found.0
      (sym (find_mapped (is_apart items (two_items a b)) (chain others) (all_ends bound)) ∙ found.1) in
      not_before mapped.0 others (found_passes (λ l. is_apart items (two_items a b) (chain others l)) (all_ends bound) mapped.0 mapped.1)

  pub chain_is : apart_chain items a b ≡ Some (chain vias last)
  unfolding apart_chain all_chains
  chain_is =
      let bound = number_end items in
      let count = length items * length items in
      find_through (is_apart items (two_items a b)) (chains_by bound) (short_lists bound count)
      ∙ ap (option_and_then (λ w. find (is_apart items (two_items a b)) (chains_by bound w)))
      (first_short (has_one (is_apart items (two_items a b)) (chains_by bound)) bound count vias (vias_low items vias (two_items a b) q leads) short (ap is_some row_finds) others_after)
      ∙ row_finds

  q_ends : is_end items q last ≡ true
  q_ends = found_passes (is_end items q) (all_ends (number_end items)) last (ends_find items q (count_low items q.one) ∙ is_first)

  same_vias : (other : Chain) → is_apart items (two_items a b) other ≡ true → other.vias ≡ vias → (other ≡ chain vias last) ⊎ ComesBefore (numbers_of (chain vias last)) (numbers_of other)
  same_vias other e same =
      let lead = from_apart items other.last other.vias (two_items a b) e in
      let pair : q ≡ lead.end = one_pair items (two_items a b) q lead.end vias other.vias same leads lead.leads in
      let own : is_end items q other.last ≡ true = ap (λ (x : Pair). is_end items x other.last) pair ∙ lead.is_last in
      let P : List ℕ → Type 0 = λ l. ComesBefore (vias ++ end_number last) (l ++ end_number other.last) in
      elim (end_after items q last other.last (are_alike items q) refl is_first own) [
        | inl one ↦ inl (ap (λ l. chain l other.last) same ∙ ap (chain vias) one)
        | inr more ↦ inr (subst P (sym same) (comes_behind vias (end_number last) (end_number other.last) more))
      ]

  pub least_apart : IsLeastApart items a b (chain vias last)
  least_apart = record {
    apart = to_apart items last vias (two_items a b) q leads ∙ q_ends;
    shortest = λ other e. no_longer vias other.vias (not_before other.last other.vias e);
    least = λ other e wide. elim (comes_or_same vias other.vias (not_before other.last other.vias e) wide) [
      | inl same ↦ same_vias other e same
      | inr more ↦ inr (comes_append vias other.vias (end_number last) (end_number other.last) more)
    ];
  }

-- where no list leads to a pair with an end, there is no chain
pub no_chain : (items : List FoldItem) (a b : ℕ) → ((others : List ℕ) (r : Pair) (l : ApartEnd) → after (new_pair items) (two_items a b) others ≡ Some r → first_end items r ≡ Some l → ⊥)
    → apart_chain items a b ≡ None
unfolding apart_chain
no_chain items a b none =
    find_none (is_apart items (two_items a b)) (all_chains items) (λ (c : Chain). false_from_ne_true (is_apart items (two_items a b) c) (λ e.
    let lead = from_apart items c.last c.vias (two_items a b) e in
    let first = has_first items lead.end c.last lead.is_last in
    none c.vias lead.end first.0 lead.leads first.1))
