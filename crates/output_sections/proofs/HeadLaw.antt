-- The walk along the items finds the output section of a name as the law says.
use Rattle.std.proofs.Common.{◌≡◌, ℕ, suc, ◌+◌, ◌<◌, ◌≤◌, ◌||◌, nat_lt, if◌then◌else◌, Bool, true, false, Option, Some, None, List, [], ◌∷◌, ◌++◌, length, get_or, refl, sym, ap, ◌∙◌, subst, arith, append_assoc, append-nil, inl, inr}
use Rattle.std.specs.Prelude.{unwrap_or}
use Rattle.std.specs.List.{list_any}
use Rattle.std.proofs.lemmas.Bool.{cases_lt, false≢true, ltb-false, ltb-true}
use Rattle.std.proofs.lemmas.List.{get_or_append_left, get_or_push, length_push}
use Rattle.std.proofs.lemmas.List.Folds.{list_any_at}
use Rattle.lk_tables.specs.declared.classes.Class.{Class}
use Rattle.lk_tables.specs.OutputNames.{priority_of}
use Rattle.output_sections.specs.declared.heads.Head.{Head}
use Rattle.output_sections.specs.HeadLaw.{AreHeads, IsHead, item_at}
use Rattle.output_sections.specs.Items.{Item, got_item}
use Rattle.output_sections.specs.Order.{item_goes_to, head_after, head_from, head_of, no_head, with_item}

module _ (class : Class) (name : List ℕ) where
  abbrev test : Item → Bool
  test = item_goes_to class name

  -- what is found after some items
  abbrev IsSoFar : List Item → Option Head → Type 0
  IsSoFar done None = (i : ℕ) → i < length done → test (item_at done i) ≡ false
  IsSoFar done (Some h) = IsHead class name done h

  -- an item of those before one more, and the one more
  kept : (done : List Item) (item : Item) (i : ℕ) → i < length done → item_at (done ++ (item ∷ [])) i ≡ item_at done i
  kept done item i low = get_or_append_left done (item ∷ []) (got_item 0) i low

  last : (done : List Item) (item : Item) (i : ℕ) → length done ≡ i → item_at (done ++ (item ∷ [])) i ≡ item
  last done item i e = get_or_push done item (got_item 0) i e

  none_more : (done : List Item) (item : Item) → test item ≡ false → IsSoFar done None → IsSoFar (done ++ (item ∷ [])) None
  none_more done item not none = λ i lt.
      elim (cases_lt i (length done)) [
        | inl low ↦ ap test (kept done item i low) ∙ none i low
        | inr le ↦ ap test (last done item i (omega (arith, le, lt, length_push done item))) ∙ not
      ]

  -- what stays as it is with an item more
  more : (done : List Item) (item : Item) (h : Head) → IsHead class name done h → (test item ≡ true → h.priority ≤ priority_of item.name) → IsHead class name (done ++ (item ∷ [])) h
  more done item h is high =
      let long = length_push done item in
      let first = is.first in
      let among = is.among in
      let at : item_at (done ++ (item ∷ [])) is.leader ≡ item_at done is.leader = kept done item is.leader among in
      record {
        first = omega (arith, first, long);
        first_goes = ap test (kept done item h.group first) ∙ is.first_goes;
        none_before = λ i lt. ap test (kept done item i (omega (arith, lt, first))) ∙ is.none_before i lt;
        leader = is.leader;
        among = omega (arith, among, long);
        goes = ap test at ∙ is.goes;
        priority = is.priority ∙ sym (ap (λ (x : Item). priority_of x.name) at);
        sh_type = is.sh_type ∙ sym (ap (λ (x : Item). x.sh_type) at);
        least = λ i lt goes.
            elim (cases_lt i (length done)) [
              | inl low ↦
                  let same = kept done item i low in
                  subst (λ (x : Item). h.priority ≤ priority_of x.name) (sym same) (is.least i low (sym (ap test same) ∙ goes))
              | inr le ↦
                  let same = last done item i (omega (arith, le, lt, long)) in
                  subst (λ (x : Item). h.priority ≤ priority_of x.name) (sym same) (high (sym (ap test same) ∙ goes))
            ];
        before = λ i lt goes.
            let same = kept done item i (omega (arith, lt, among)) in
            subst (λ (x : Item). h.priority < priority_of x.name) (sym same) (is.before i lt (sym (ap test same) ∙ goes));
      }

  -- an item that stands first from now on, in an output section with this number
  leads : (done : List Item) (item : Item) (group : ℕ) → test item ≡ true
      → group < length done + 1 → test (item_at (done ++ (item ∷ [])) group) ≡ true
      → ((i : ℕ) → i < group → test (item_at (done ++ (item ∷ [])) i) ≡ false)
      → ((i : ℕ) → i < length done → test (item_at done i) ≡ true → priority_of item.name < priority_of (item_at done i).name)
      → IsHead class name (done ++ (item ∷ [])) (record { group = group; priority = priority_of item.name; sh_type = item.sh_type })
  leads done item group goes first first_goes none_before less =
      let long = length_push done item in
      let at : item_at (done ++ (item ∷ [])) (length done) ≡ item = last done item (length done) refl in
      record {
        first = omega (arith, first, long);
        first_goes = first_goes;
        none_before = none_before;
        leader = length done;
        among = omega (arith, long);
        goes = ap test at ∙ goes;
        priority = sym (ap (λ (x : Item). priority_of x.name) at);
        sh_type = sym (ap (λ (x : Item). x.sh_type) at);
        least = λ i lt own.
            elim (cases_lt i (length done)) [
              | inl low ↦
                  let same = kept done item i low in
                  let over = less i low (sym (ap test same) ∙ own) in
                  subst (λ (x : Item). priority_of item.name ≤ priority_of x.name) (sym same) (omega (arith, over))
              | inr le ↦
                  let same = last done item i (omega (arith, le, lt, long)) in
                  subst (λ (x : Item). priority_of item.name ≤ priority_of x.name) (sym same) (omega arith)
            ];
        before = λ i lt own.
            let same = kept done item i lt in
            subst (λ (x : Item). priority_of item.name < priority_of x.name) (sym same) (less i lt (sym (ap test same) ∙ own));
      }

  first_item : (done : List Item) (item : Item) → test item ≡ true → IsSoFar done None → IsHead class name (done ++ (item ∷ [])) (with_item None (length done) item)
  unfolding with_item
  first_item done item goes none =
      leads done item (length done) goes (omega arith) (ap test (last done item (length done) refl) ∙ goes) (λ i lt. ap test (kept done item i lt) ∙ none i lt)
      (λ i lt own. absurd (false≢true (sym (none i lt) ∙ own)))

  next_item : (done : List Item) (item : Item) (h : Head) → test item ≡ true → IsHead class name done h → IsHead class name (done ++ (item ∷ [])) (with_item (Some h) (length done) item)
  unfolding with_item
  next_item done item h goes is = by (nat_lt (priority_of item.name) h.priority) refl
    where
      by : (t : Bool) → nat_lt (priority_of item.name) h.priority ≡ t
          → IsHead class name (done ++ (item ∷ [])) (if t then record { group = h.group; priority = priority_of item.name; sh_type = item.sh_type } else h)
      by true less =
          let lt = ltb-true (priority_of item.name) h.priority less in
          let first = is.first in
          leads done item h.group goes (omega (arith, first)) (ap test (kept done item h.group first) ∙ is.first_goes)
          (λ i low. ap test (kept done item i (omega (arith, low, first))) ∙ is.none_before i low)
          (λ i low own. let high = is.least i low own in omega (arith, lt, high))
      by false not =
          let le = ltb-false (priority_of item.name) h.priority not in
          more done item h is (λ own. omega (arith, le))

  step : (done : List Item) (item : Item) (head : Option Head) → IsSoFar done head → IsSoFar (done ++ (item ∷ [])) (head_after class name head (length done) item)
  unfolding head_after
  step done item head so_far = by (item_goes_to class name item) refl head so_far
    where
      by : (t : Bool) → item_goes_to class name item ≡ t → (o : Option Head) → IsSoFar done o
          → IsSoFar (done ++ (item ∷ [])) (if t then Some (with_item o (length done) item) else o)
      by true goes None none = first_item done item goes none
      by true goes (Some h) is = next_item done item h goes is
      by false not None none = none_more done item not none
      by false not (Some h) is = more done item h is (λ own. absurd (false≢true (sym not ∙ own)))

  from : (done rest : List Item) (head : Option Head) (number : ℕ) → length done ≡ number → IsSoFar done head → IsSoFar (done ++ rest) (head_from class name head number rest)
  from done [] head number is so_far = subst (λ l. IsSoFar l head) (sym (append-nil done)) so_far
  from done (item ∷ rest) head number is so_far =
      let after : Option Head = head_after class name head number item in
      let one : IsSoFar (done ++ (item ∷ [])) after = subst (λ n. IsSoFar (done ++ (item ∷ [])) (head_after class name head n item)) is (step done item head so_far) in
      subst (λ l. IsSoFar l (head_from class name after (number + 1) rest)) (append_assoc done (item ∷ []) rest)
      (from (done ++ (item ∷ [])) rest after (number + 1) (length_push done item ∙ ap (λ n. n + 1) is) one)

  none_any : (xs : List Item) → ((i : ℕ) → i < length xs → test (item_at xs i) ≡ false) → list_any test xs ≡ false
  none_any [] fails = refl
  none_any (x ∷ xs) fails =
      ap (λ t. t || list_any test xs) (fails 0 (omega arith)) ∙ none_any xs (λ i lt. fails (suc i) (omega (arith, lt)))

  found : (items : List Item) (o : Option Head) → list_any test items ≡ true → IsSoFar items o → IsHead class name items (unwrap_or o no_head)
  found items None any none = absurd (false≢true (sym (none_any items none) ∙ any))
  found items (Some h) any is = is

pub heads_are : (items : List Item) → AreHeads items
heads_are items = λ class name any.
    found class name items (head_from class name None 0 items) any (from class name [] items None 0 refl (λ i lt. absurd (omega (arith, lt))))
