-- A section that is kept and not merged has one that is written in its place, and both go to one output section: folded sections have equal names of
-- their output sections, types and flags.
use Rattle.std.proofs.Common.{◌≡◌, ℕ, suc, ◌<◌, ◌≤◌, ◌⊎◌, ◌==◌, ◌&&◌, not, Bool, true, false, if◌then◌else◌, Option, Some, None, List, [], ◌∷◌, length, map, get_or, set, refl, sym, ap, ◌∙◌, subst, arith, inl, inr}
use Rattle.std.specs.Prelude.{All, slice_index}
use Rattle.std.proofs.lemmas.Bool.{cases_eq, cases_lt}
use Rattle.std.proofs.lemmas.List.{get_or-map, get_or-set_other, get_or-set_same, get_or_past, length-map, length-set}
use Rattle.std.proofs.lemmas.List.FromFn.{get_or-map-range_with_len, length-map-range_with_len}
use Rattle.lk_tables.specs.Binding.{Bindings}
use Rattle.lk_tables.specs.Files.{File, section_total}
use Rattle.lk_tables.specs.OutputNames.{output_name}
use Rattle.lk_tables.specs.Sites.{place_of}
use Rattle.lk_tables.proofs.BoundHas.{each_flat, one_if}
use Rattle.link_sections.specs.FoldItems.{FoldItem}
use Rattle.link_sections.specs.InputSections.{input_at, input_of}
use Rattle.link_sections.specs.Leaders.{fold_each, folded_leaders, is_kept, leader_at, own_leaders, section_at as section_in}
use Rattle.link_sections.specs.PoolViews.{Merged, is_merged}
use Rattle.icf_part.specs.Folding.{AreFolded, AreLeaders, item_at, no_item}
use Rattle.sec_graph.specs.Foldable.{is_foldable, item_in, item_of, items}
use Rattle.link_passes.specs.Leaders.{GoWithLeaders}

-- what is so of each section and its leader
module _ {X : Type 0} (S : ℕ → X) where
  abbrev pub SameAt : List (Option ℕ) → Type 0
  SameAt leaders = (n m : ℕ) → leader_at leaders n ≡ Some m → S n ≡ S m

  set_same : (leaders : List (Option ℕ)) (n m : ℕ) → SameAt leaders → S n ≡ S m → SameAt (set leaders n (Some m))
  set_same leaders n m alike same x y is = elim (cases_eq n x) [
    | inl here ↦ elim (cases_lt n (length leaders)) [
      | inl lt ↦
          let own : Some m ≡ Some y = sym (get_or-set_same leaders n (Some m) None lt) ∙ ap (λ k. get_or (set leaders n (Some m)) k None) here ∙ is in
          ap S (sym here) ∙ same ∙ ap S (some_same m y own)
      | inr past ↦ no_leader (sym (get_or_past (set leaders n (Some m)) x None (omega (arith, past, here, length-set leaders n (Some m)))) ∙ is)
    ]
    | inr other ↦ alike x y (sym (get_or-set_other leaders n x (Some m) None (λ e. other (sym e))) ∙ is)
  ]
    where
      some_same : (p q : ℕ) → Some p ≡ Some q → p ≡ q
      some_same p q e = cc

      no_leader : {A : Type 0} → None ≡ Some y → A
      no_leader e = cc

  each_same : (list : List FoldItem) (ns ps : List ℕ) (leaders : List (Option ℕ)) → SameAt leaders
      → ((k : ℕ) → k < length ns → k < length ps → S (get_or ns k 0) ≡ S (section_in list (get_or ps k 0))) → SameAt (fold_each list ns ps leaders)
  each_same list [] ps leaders alike same = alike
  each_same list (n ∷ ns) [] leaders alike same = alike
  each_same list (n ∷ ns) (p ∷ ps) leaders alike same =
      each_same list ns ps (set leaders n (Some (section_in list p))) (set_same leaders n (section_in list p) alike (same 0 (omega arith) (omega arith)))
      (λ k lt less. same (suc k) (omega (arith, lt)) (omega (arith, less)))

-- a leader stays one, or another comes in its place
abbrev HasLeader : List (Option ℕ) → ℕ → Type 0
HasLeader leaders x = (k : ℕ) × (leader_at leaders x ≡ Some k)

set_led : (leaders : List (Option ℕ)) (x n m : ℕ) → HasLeader leaders x → HasLeader (set leaders n (Some m)) x
set_led leaders x n m led = elim (cases_eq n x) [
  | inl here ↦ elim (cases_lt n (length leaders)) [
    | inl lt ↦ (m, ap (λ k. get_or (set leaders n (Some m)) k None) (sym here) ∙ get_or-set_same leaders n (Some m) None lt)
    | inr past ↦ absurd (no_leader led.0 (sym (get_or_past leaders x None (omega (arith, past, here))) ∙ led.1))
  ]
  | inr other ↦ (led.0, get_or-set_other leaders n x (Some m) None (λ e. other (sym e)) ∙ led.1)
]
  where
    no_leader : (k : ℕ) → None ≡ Some k → ⊥
    no_leader k e = cc

each_led : (list : List FoldItem) (ns ps : List ℕ) (leaders : List (Option ℕ)) (x : ℕ) → HasLeader leaders x → HasLeader (fold_each list ns ps leaders) x
each_led list [] ps leaders x led = led
each_led list (n ∷ ns) [] leaders x led = led
each_led list (n ∷ ns) (p ∷ ps) leaders x led =
    each_led list ns ps (set leaders n (Some (section_in list p))) x (set_led leaders x n (section_in list p) led)

module _ (files : List File) (b : Bindings) (kept : List Bool) where
  -- without folding
  own_at : (merged : List (Option Merged)) (n : ℕ) → n < length kept → leader_at (own_leaders kept merged) n ≡ (if is_kept kept n && not (is_merged merged n) then Some n else None)
  unfolding own_leaders
  own_at merged n lt = get_or-map-range_with_len (λ k. if is_kept kept k && not (is_merged merged k) then Some k else None) 0 (length kept) n n None lt (omega arith)

  own_past : (merged : List (Option Merged)) (n : ℕ) → length kept ≤ n → leader_at (own_leaders kept merged) n ≡ None
  unfolding own_leaders
  own_past merged n past =
      get_or_past (own_leaders kept merged) n None
      (omega (arith, past, length-map-range_with_len (λ k. if is_kept kept k && not (is_merged merged k) then Some k else None) 0 (length kept)))

  own_is : (merged : List (Option Merged)) (n m : ℕ) → leader_at (own_leaders kept merged) n ≡ Some m → n ≡ m
  own_is merged n m is = elim (cases_lt n (length kept)) [
    | inl lt ↦ by (is_kept kept n && not (is_merged merged n)) (sym (own_at merged n lt) ∙ is)
    | inr past ↦ no_leader (sym (own_past merged n past) ∙ is)
  ]
    where
      no_leader : {A : Type 0} → None ≡ Some m → A
      no_leader e = cc

      by : (t : Bool) → (if t then Some n else None) ≡ Some m → n ≡ m
      by true e = cc
      by false e = cc

  kept_below : (n : ℕ) → is_kept kept n ≡ true → n < length kept
  kept_below n is = elim (cases_lt n (length kept)) [
    | inl lt ↦ lt
    | inr past ↦ absurd (let wrong : false ≡ true = sym (get_or_past kept n false past) ∙ is in cc)
  ]

  own_led : (merged : List (Option Merged)) (n : ℕ) → is_kept kept n ≡ true → is_merged merged n ≡ false → HasLeader (own_leaders kept merged) n
  own_led merged n is other =
      (n, own_at merged n (kept_below n is) ∙ ap (λ t. if t && not (is_merged merged n) then Some n else None) is ∙ ap (λ t. if not t then Some n else None) other)

  pub own_go : (merged : List (Option Merged)) → GoWithLeaders files b kept merged (own_leaders kept merged)
  own_go merged = record {
    led = own_led merged;
    output = λ n m is. ap (λ k. output_name (input_at files b k).name) (own_is merged n m is);
    sh_type = λ n m is. ap (λ k. (input_at files b k).sh_type) (own_is merged n m is);
    flags = λ n m is. ap (λ k. (input_at files b k).flags) (own_is merged n m is);
  }

  -- what an item has of its section
  record IsOfSection (i : FoldItem) : Type 0 where
    output : output_name (input_at files b i.section).name ≡ i.output
    sh_type : (input_at files b i.section).sh_type ≡ i.sh_type
    flags : (input_at files b i.section).flags ≡ i.flags

  item_is : (merged : List (Option Merged)) (n : ℕ) → IsOfSection (item_of files b merged n)
  unfolding item_in
  item_is merged n = record { output = refl; sh_type = refl; flags = refl }

  items_are : (barred : List Bool) (merged : List (Option Merged)) → All IsOfSection (items files b merged kept barred)
  unfolding items
  items_are barred merged =
      each_flat IsOfSection _ 0 (section_total files) (λ n lt. one_if IsOfSection (is_foldable files b kept barred n) (item_of files b merged n) (λ is. item_is merged n))

  section_at_is : (list : List FoldItem) (k : ℕ) → k < length list → section_in list k ≡ (item_at list k).section
  section_at_is list k lt = get_or-map (λ (i : FoldItem). i.section) list k no_item 0 lt

  -- two items with one key
  record HaveOneKey (x y : FoldItem) : Type 0 where
    output : x.output ≡ y.output
    sh_type : x.sh_type ≡ y.sh_type
    flags : x.flags ≡ y.flags

  one_key : (list : List FoldItem) (p k : ℕ) → (p ≡ k) ⊎ AreFolded list p k → HaveOneKey (item_at list p) (item_at list k)
  one_key list p k is = elim is [
    | inl same ↦ record {
      output = ap (λ n. (item_at list n).output) same;
      sh_type = ap (λ n. (item_at list n).sh_type) same;
      flags = ap (λ n. (item_at list n).flags) same;
    }
    | inr folded ↦
        let key = (folded.congruence.fits p k folded.listed).key in
        record { output = ap (λ (x : _). x.output) key; sh_type = ap (λ (x : _). x.sh_type) key; flags = ap (λ (x : _). x.flags) key }
  ]

  pub folded_go : (barred : List Bool) (merged : List (Option Merged)) (places : List ℕ) → AreLeaders (items files b merged kept barred) places
      → GoWithLeaders files b kept merged (folded_leaders (items files b merged kept barred) places (own_leaders kept merged))
  unfolding folded_leaders
  folded_go barred merged places are =
      let list = items files b merged kept barred in
      let ns = map (λ (i : FoldItem). i.section) list in
      let own = own_go merged in
      let low : (k : ℕ) → k < length ns → k < length list = λ k lt. omega (arith, lt, length-map list (λ (i : FoldItem). i.section)) in
      let of : (a : ℕ) → a < length list → IsOfSection (item_at list a) = λ a in_list. items_are barred merged a no_item in_list in
      record {
        led = λ n is other. each_led list ns places (own_leaders kept merged) n (own.led n is other);
        output = each_same (λ n. output_name (input_at files b n).name) list ns places (own_leaders kept merged) own.output (λ k lt less.
            let is = are.each k (low k lt) in
            let p = slice_index places k in
            ap (λ n. output_name (input_at files b n).name) (section_at_is list k (low k lt)) ∙ (of k (low k lt)).output ∙ sym (one_key list p k is.own).output
            ∙ sym (of p is.within).output ∙ ap (λ n. output_name (input_at files b n).name) (sym (section_at_is list p is.within)));
        sh_type = each_same (λ n. (input_at files b n).sh_type) list ns places (own_leaders kept merged) own.sh_type (λ k lt less.
            let is = are.each k (low k lt) in
            let p = slice_index places k in
            ap (λ n. (input_at files b n).sh_type) (section_at_is list k (low k lt)) ∙ (of k (low k lt)).sh_type ∙ sym (one_key list p k is.own).sh_type
            ∙ sym (of p is.within).sh_type ∙ ap (λ n. (input_at files b n).sh_type) (sym (section_at_is list p is.within)));
        flags = each_same (λ n. (input_at files b n).flags) list ns places (own_leaders kept merged) own.flags (λ k lt less.
            let is = are.each k (low k lt) in
            let p = slice_index places k in
            ap (λ n. (input_at files b n).flags) (section_at_is list k (low k lt)) ∙ (of k (low k lt)).flags ∙ sym (one_key list p k is.own).flags
            ∙ sym (of p is.within).flags ∙ ap (λ n. (input_at files b n).flags) (sym (section_at_is list p is.within)));
      }
