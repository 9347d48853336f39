-- Things in order of their keys, and of their places within a key: the first of a run has the least place of the run.
use Rattle.std.proofs.Common.{◌≡◌, ◌≢◌, ℕ, ◌+◌, ◌-◌, ◌<◌, ◌≤◌, false, List, length, map, get_or, set, Contains, refl, sym, ap, ◌∙◌, subst, ⊎_elim, arith}
use Rattle.std.specs.declared.cmp.Ordering.{Ordering}
use Rattle.std.specs.declared.cmp.Ordering.TheVariants.{Less, Equal, Greater}
use Rattle.std.specs.Ordering.{nat_cmp, ordering_then, is_lt}
use Rattle.std.specs.Cmp.{IsTotalOrder}
use Rattle.std.specs.List.Sorted.{IsSorted, IsPermutation}
use Rattle.std.proofs.lemmas.Cmp.{then_total, on_total, nat_cmp_total}
use Rattle.std.proofs.lemmas.List.{get_or-set_same, get_or-set_other, get_or_default, get_or-map, length-map, length-set}
use Rattle.std.proofs.lemmas.List.Elements.{All-contains, All-map, All-weaker, All-contains_itself, Contains-get_or}
use Rattle.std.proofs.lemmas.List.Sorted.{sorted_far, ranks_by, Contains-permutation, IsPermutation-sym}
use Rattle.std.proofs.lemmas.Map.Keys.{ge_from_not_lt}
use Rattle.std.proofs.lemmas.Bool.{cases_eq, cases_lt}
use Rattle.name_numbers.specs.Marks.{IsLeastOf, Marks}

-- by position: equal keys stand side by side, and their places rise; no place is given to two keys
pub record Runs {K : Type 0} (key : ℕ → K) (place : ℕ → ℕ) (n : ℕ) : Type 0 where
  pub rise : (i j : ℕ) → i ≤ j → j < n → key i ≡ key j → place i ≤ place j
  pub together : (i j k : ℕ) → i ≤ j → j ≤ k → k < n → key i ≡ key k → key j ≡ key k
  pub once : (i j : ℕ) → i < n → j < n → place i ≡ place j → key i ≡ key j

-- the least place of the key at j
pub record IsLeastAt {K : Type 0} (key : ℕ → K) (place : ℕ → ℕ) (n j least : ℕ) : Type 0 where
  pub one : ℕ
  pub within : one < n
  pub same : key one ≡ key j
  pub is : place one ≡ least
  pub most : (i : ℕ) → i < n → key i ≡ key j → least ≤ place i

-- the first k are marked
pub record Marked {K : Type 0} (key : ℕ → K) (place : ℕ → ℕ) (n : ℕ) (old ns : List ℕ) (first k : ℕ) : Type 0 where
  pub wide : length ns ≡ length old
  pub last : (j : ℕ) → j + 1 ≡ k → IsLeastAt key place n j first
  pub each : (j : ℕ) → j < k → IsLeastAt key place n j (get_or ns (place j) 0)
  pub others : (s : ℕ) → ((j : ℕ) → j < k → place j ≢ s) → get_or ns s 0 ≡ get_or old s 0

module _ {K : Type 0} (key : ℕ → K) (place : ℕ → ℕ) (n : ℕ) where
  pub marked_none : (old : List ℕ) (first : ℕ) → Marked key place n old old first 0
  marked_none old first = record {
    wide = refl;
    last = λ j e. absurd (omega arith);
    each = λ j lt. absurd (omega arith);
    others = λ s other. refl;
  }

  least_same : (i j least : ℕ) → key i ≡ key j → IsLeastAt key place n i least → IsLeastAt key place n j least
  least_same i j least e l = record { one = l.one; within = l.within; same = l.same ∙ e; is = l.is; most = λ k lt same. l.most k lt (same ∙ sym e) }

  -- a run begins at k, or goes on
  pub run_begins : Runs key place n → (k : ℕ) → k < n → ((j : ℕ) → j + 1 ≡ k → key j ≢ key k) → IsLeastAt key place n k (place k)
  run_begins runs k lt new = record {
    one = k;
    within = lt;
    same = refl;
    is = refl;
    most = λ i less same. ⊎_elim
        (λ (before : i < k).
        let j : ℕ = k - 1 in
        let next : j + 1 ≡ k = omega arith in
        absurd (new j next (runs.together i j k (omega arith) (omega arith) lt same)))
        (λ (later : k ≤ i). runs.rise k i later less (sym same))
        (cases_lt i k);
  }

  pub run_goes_on : (k j first : ℕ) → j + 1 ≡ k → key j ≡ key k → ((i : ℕ) → i + 1 ≡ k → IsLeastAt key place n i first) → IsLeastAt key place n k first
  run_goes_on k j first next same last = least_same j k first same (last j next)

  -- one more
  pub marked_more : Runs key place n → (old ns : List ℕ) (before first k : ℕ) → Marked key place n old ns before k → k < n → place k < length ns → IsLeastAt key place n k first
      → Marked key place n old (set ns (place k) first) first (k + 1)
  marked_more runs old ns before first k m lt within least =
      let here : get_or (set ns (place k) first) (place k) 0 ≡ first = get_or-set_same ns (place k) first 0 within in
      let L : ℕ → ℕ → Type 0 = IsLeastAt key place n in
      let own : (j : ℕ) → j < n → place j ≡ place k → L j (get_or (set ns (place k) first) (place j) 0) = λ j less e.
      let P : ℕ → Type 0 = λ v. L j v in
      subst P (sym (ap (λ a. get_or (set ns (place k) first) a 0) e ∙ here)) (least_same k j first (sym (runs.once j k less lt e)) least) in
      record {
        wide = length-set ns (place k) first ∙ m.wide;
        last = λ j e. let at : k ≡ j = omega arith in let P : ℕ → Type 0 = λ i. L i first in subst P at least;
        each = λ j less. ⊎_elim
            (λ (e : place j ≡ place k). own j (omega arith) e)
            (λ (ne : place j ≢ place k). ⊎_elim
            (λ (early : j < k). let P : ℕ → Type 0 = λ v. L j v in subst P (sym (get_or-set_other ns (place k) (place j) first 0 ne)) (m.each j early))
            (λ (late : k ≤ j). let at : j ≡ k = omega arith in absurd (ne (ap place at)))
            (cases_lt j k))
            (cases_eq (place j) (place k));
        others = λ s other. get_or-set_other ns (place k) s first 0 (λ e. other k (omega arith) (sym e)) ∙ m.others s (λ j less. other j (omega arith));
      }

-- two keys that say the same
pub runs_by : {K L : Type 0} (key : ℕ → K) (other : ℕ → L) (place : ℕ → ℕ) (n : ℕ) → ((i j : ℕ) → i < n → j < n → key i ≡ key j → other i ≡ other j) → ((i j : ℕ) → i < n → j < n → other i ≡ other j → key i ≡ key j) → Runs key place n → Runs other place n
runs_by key other place n there back r = record {
  rise = λ i j le lt e. r.rise i j le lt (back i j (omega arith) lt e);
  together = λ i j k low high lt e. there j k (omega arith) lt (r.together i j k low high lt (back i k (omega arith) lt e));
  once = λ i j lt less e. there i j lt less (r.once i j lt less e);
}

-- of two comparisons the first decides, or both are read
not_less_first : (o p : Ordering) → is_lt (ordering_then o p) ≡ false → is_lt o ≡ false
not_less_first Less p e = e
not_less_first Equal p e = refl
not_less_first Greater p e = refl

pub then_second : (o p : Ordering) → o ≡ Equal → is_lt (ordering_then o p) ≡ false → is_lt p ≡ false
then_second o p e h = let P : Ordering → Type 0 = λ q. is_lt (ordering_then q p) ≡ false in subst P e h

pub first_tie : (o p q r : Ordering) → is_lt (ordering_then o p) ≡ false → is_lt (ordering_then q r) ≡ false → (is_lt o ≡ false → is_lt q ≡ false → o ≡ Equal) → (is_lt o ≡ false → is_lt q ≡ false → q ≡ Equal) → (o ≡ Equal) × (q ≡ Equal)
first_tie Less p q r a b tie also = absurd cc
first_tie Equal p Less r a b tie also = absurd cc
first_tie Equal p Equal r a b tie also = (refl, refl)
first_tie Equal p Greater r a b tie also = (refl, also refl refl)
first_tie Greater p Less r a b tie also = absurd cc
first_tie Greater p Equal r a b tie also = (tie refl refl, refl)
first_tie Greater p Greater r a b tie also = (tie refl refl, also refl refl)

-- a comparison by which only equals tie
abbrev pub Exact : {K : Type 0} → (K → K → Ordering) → Type 0
Exact {K} cmp = (x y : K) → is_lt (cmp x y) ≡ false → is_lt (cmp y x) ≡ false → x ≡ y

pub same_number : Exact nat_cmp
same_number x y a b = let low = ge_from_not_lt x y a in let high = ge_from_not_lt y x b in omega arith

-- a list sorted by a key, then by the place
pub runs_sorted : {X K : Type 0} (key : X → K) (place : X → ℕ) (cmp : K → K → Ordering) → IsTotalOrder cmp → Exact cmp → ((x y : K) → x ≡ y → cmp x y ≡ Equal) → (list : List X) (d : X) → IsSorted (λ x y. ordering_then (cmp (key x) (key y)) (nat_cmp (place x) (place y))) list
    → ((x y : X) → Contains list x → Contains list y → place x ≡ place y → key x ≡ key y) → Runs (λ j. key (get_or list j d)) (λ j. place (get_or list j d)) (length list)
runs_sorted {X} {K} key place cmp total exact ties list d up once =
    let at : ℕ → X = λ j. get_or list j d in
    let R : X → X → Ordering = λ x y. ordering_then (cmp (key x) (key y)) (nat_cmp (place x) (place y)) in
    let weak = ranks_by (then_total (on_total key total) (on_total place nat_cmp_total)) (λ (x : X). x) in
    let far : (i j : ℕ) → i ≤ j → j < length list → is_lt (R (at j) (at i)) ≡ false = λ i j le lt. sorted_far (λ x y. is_lt (R x y)) weak list up i j d le lt in
    let key_far : (i j : ℕ) → i ≤ j → j < length list → is_lt (cmp (key (at j)) (key (at i))) ≡ false = λ i j le lt. not_less_first (cmp (key (at j)) (key (at i))) _ (far i j le lt) in
    record {
      rise = λ i j le lt same. ge_from_not_lt (place (at j)) (place (at i)) (then_second (cmp (key (at j)) (key (at i))) _ (ties (key (at j)) (key (at i)) (sym same)) (far i j le lt));
      together = λ i j k low high lt same.
          let P : K → Type 0 = λ x. is_lt (cmp (key (at j)) x) ≡ false in
          exact (key (at j)) (key (at k)) (subst P same (key_far i j low (omega arith))) (key_far j k high lt);
      once = λ i j lt less e. once (at i) (at j) (Contains-get_or list i d lt) (Contains-get_or list j d less) e;
    }

-- all are marked
pub marks_all : {X K : Type 0} (key : X → K) (place : X → ℕ) (list : List X) (d : X) (old ns : List ℕ) (first n : ℕ) → n ≡ length list → Marked (λ j. key (get_or list j d)) (λ j. place (get_or list j d)) (length list) old ns first n → Marks key place list old ns
marks_all {X} key place list d old ns first n all m =
    let at : ℕ → X = λ j. get_or list j d in
    record {
      wide = m.wide;
      each = λ x has.
          let j : ℕ = has.0 in
          let lt = has.1 in
          let is : at j ≡ x = get_or_default list j d x lt ∙ has.2 in
          let l = m.each j (omega arith) in
          let P : X → Type 0 = λ y. IsLeastOf key place list y (get_or ns (place y) 0) in
          subst P is (record {
            one = at l.one;
            listed = Contains-get_or list l.one d l.within;
            same = l.same;
            is = l.is;
            most = λ y also same.
                let i : ℕ = also.0 in
                let there : at i ≡ y = get_or_default list i d y also.1 ∙ also.2 in
                let Q : X → Type 0 = λ z. key z ≡ key (at j) → get_or ns (place (at j)) 0 ≤ place z in
                subst Q there (l.most i also.1) same;
          });
      others = λ s other. m.others s (λ j lt. other (at j) (Contains-get_or list j d (omega arith)));
    }

-- the same of the list in another order
pub marks_moved : {X K : Type 0} (key : X → K) (place : X → ℕ) (list moved : List X) (old ns : List ℕ) → IsPermutation list moved → Marks key place moved old ns → Marks key place list old ns
marks_moved {X} key place list moved old ns p m =
    let there : (x : X) → Contains list x → Contains moved x = λ x has. Contains-permutation list moved x p has in
    let back : (x : X) → Contains moved x → Contains list x = λ x has. Contains-permutation moved list x (IsPermutation-sym list moved p) has in
    record {
      wide = m.wide;
      each = λ x has.
          let l = m.each x (there x has) in
          record { one = l.one; listed = back l.one l.listed; same = l.same; is = l.is; most = λ y also same. l.most y (there y also) same };
      others = λ s other. m.others s (λ x has. other x (back x has));
    }

-- what a list of views has
pub in_map : {X Y : Type 0} (f : X → Y) (xs : List X) (x : X) → Contains xs x → Contains (map f xs) (f x)
in_map f xs x has = (has.0, omega (arith, has.1, length-map xs f), get_or-map f xs has.0 x (f x) has.1 ∙ ap f has.2)

pub map_back : {X Y : Type 0} (f : X → Y) (xs : List X) (y : Y) → Contains (map f xs) y → (x : X) × (Contains xs x × (f x ≡ y))
map_back {X} {Y} f xs y has =
    let P : Y → Type 0 = λ z. (x : X) × (Contains xs x × (f x ≡ z)) in
    All-contains P (map f xs) y (All-map P f xs (All-weaker (Contains xs) (λ x. P (f x)) (λ x h. (x, (h, refl))) xs (All-contains_itself xs))) has

-- the same of views of the things
pub marks_viewed : {X Y K : Type 0} (view : X → Y) (key : Y → K) (place : Y → ℕ) (list : List X) (old ns : List ℕ) → Marks (λ x. key (view x)) (λ x. place (view x)) list old ns → Marks key place (map view list) old ns
marks_viewed {X} {Y} view key place list old ns m =
    let back : (y : Y) → Contains (map view list) y → (x : X) × (Contains list x × (view x ≡ y)) = map_back view list in
    let there : (x : X) → Contains list x → Contains (map view list) (view x) = in_map view list in
    record {
      wide = m.wide;
      each = λ y has.
          let b = back y has in
          let l = m.each b.0 b.1.0 in
          let P : Y → Type 0 = λ z. IsLeastOf key place (map view list) z (get_or ns (place z) 0) in
          subst P b.1.1 (record {
            one = view l.one;
            listed = there l.one l.listed;
            same = l.same;
            is = l.is;
            most = λ z also same.
                let d = back z also in
                let Q : Y → Type 0 = λ u. key u ≡ key (view b.0) → get_or ns (place (view b.0)) 0 ≤ place u in
                subst Q d.1.1 (l.most d.0 d.1.0) same;
          });
      others = λ s other. m.others s (λ x has. other (view x) (there x has));
    }
