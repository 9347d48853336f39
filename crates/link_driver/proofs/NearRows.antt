-- Two sections of one output section, in the order of a layout: what stands between them.
use Rattle.std.proofs.Common.{◌≡◌, ℕ, ◌+◌, ◌-◌, ◌*◌, ◌<◌, ◌≤◌, ◌^◌, ◌==◌, ◌&&◌, Bool, true, false, Option, List, [], ◌∷◌, ◌++◌, length, get_or, refl, sym, ap, ◌∙◌, subst, arith, inl, inr}
use Rattle.std.specs.Prelude.{All}
use Rattle.std.specs.List.{list_all, sum_by}
use Rattle.std.proofs.lemmas.Bool.{cases_lt, ne_eqb}
use Rattle.std.proofs.lemmas.List.Elements.{All-nil, All-head, All-tail, All-cons, All-append}
use Rattle.std.proofs.lemmas.List.Folds.{list_all-append}
use Rattle.lk_tables.specs.declared.classes.Class.{Class}
use Rattle.lk_tables.specs.Binding.{Bindings}
use Rattle.lk_tables.specs.Files.{File, section_total}
use Rattle.link_sections.specs.declared.members.Content.{Content}
use Rattle.link_sections.specs.declared.members.Content.TheVariants.{Section, Pool as IsPool, Got}
use Rattle.link_sections.specs.declared.members.Member.{Member}
use Rattle.link_sections.specs.declared.pools.Pool.{Pool}
use Rattle.link_sections.specs.Cuts.{Cut}
use Rattle.output_sections.specs.declared.rows.Row.{Row}
use Rattle.layout.specs.declared.walk.Cursor.{Cursor}
use Rattle.output_sections.specs.Items.{Item, items}
use Rattle.output_sections.specs.Order.{key_of, order_of}
use Rattle.layout.specs.Walk.{is_empty, member_at, members_along, runs, size_at}
use Rattle.link_driver.proofs.CallChain.{IsOfGroup, run_members, two_near}
use Rattle.link_driver.proofs.Flat.{split_two}
use Rattle.link_driver.proofs.LayoutRows.{IsItem, IsRowOf, Seated, group_of_row, items_are, key_is, no_row, ordered, rows_are}
use Rattle.link_driver.proofs.Orders.{Later, Pairs}
use Rattle.link_driver.proofs.Priorities.{priority_low}

pairs_rest : {X : Type 0} (R : X → X → Type 0) (xs ys : List X) → Pairs R (xs ++ ys) → Pairs R ys
pairs_rest R [] ys is = is
pairs_rest R (x ∷ xs) ys is = pairs_rest R xs ys is.1

all_back : {X : Type 0} (P : X → Type 0) (xs ys : List X) → All P (xs ++ ys) → All P ys
all_back P [] ys all = all
all_back P (x ∷ xs) ys all = all_back P xs ys (All-tail P x (xs ++ ys) all)

all_front : {X : Type 0} (P : X → Type 0) (xs ys : List X) → All P (xs ++ ys) → All P xs
all_front P [] ys all = All-nil P
all_front P (x ∷ xs) ys all = All-cons P x xs (All-head P x (xs ++ ys) all) (all_front P xs ys (All-tail P x (xs ++ ys) all))

pairs_last : {X : Type 0} (R : X → X → Type 0) (xs : List X) (y : X) (ys : List X) → Pairs R (xs ++ (y ∷ ys)) → All (λ x. R x y) xs
pairs_last R [] y ys is = All-nil (λ x. R x y)
pairs_last R (x ∷ xs) y ys is = All-cons (λ e. R e y) x xs (All-head (R x) y ys (all_back (R x) xs (y ∷ ys) is.0)) (pairs_last R xs y ys is.1)

-- the most bytes of a member: of a section so many as its number says, of all others what they have
abbrev pub most : (upper : ℕ → ℕ) → Content → (size : ℕ) → ℕ
most upper (Section n) size = upper n
most upper (IsPool p) size = size
most upper Got size = size

empty_is : (r : Row) (rs : List Row) → 0 < r.size → is_empty (r ∷ rs) ≡ false
unfolding is_empty
empty_is r rs some = ap (λ b. b && list_all (λ (x : Row). x.size == 0) rs) (ne_eqb r.size 0 (λ e. omega (arith, e, some)))

empty_last : (rs : List Row) (r : Row) → 0 < r.size → is_empty (rs ++ (r ∷ [])) ≡ false
unfolding is_empty
empty_last rs r some =
    list_all-append (λ (x : Row). x.size == 0) rs (r ∷ []) ∙ ap (λ b. list_all (λ (x : Row). x.size == 0) rs && (b && true)) (ne_eqb r.size 0 (λ e. omega (arith, e, some)))
    ∙ no_second (list_all (λ (x : Row). x.size == 0) rs)
  where
    no_second : (b : Bool) → (b && false) ≡ false
    no_second true = refl
    no_second false = refl

empty_either : (r : Row) (mid : List Row) (s : Row) → 0 < r.size + s.size → is_empty (r ∷ (mid ++ (s ∷ []))) ≡ false
empty_either r mid s some = elim (cases_lt 0 r.size) [
  | inl first ↦ empty_is r (mid ++ (s ∷ [])) first
  | inr none ↦ empty_last (r ∷ mid) s (omega (arith, some, none))
]

-- the keys of rows that stand between two of one group
keys_close : (rx gx px rr gr pr rz gz pz : ℕ) → px < 2 ^ 32 → pr < 2 ^ 32 → pz < 2 ^ 32 → gx < 2 ^ 32 → gr < 2 ^ 32 → rz ≡ rx → gz ≡ gx
    → (rx * 2 ^ 32 + gx) * 2 ^ 32 + px ≤ (rr * 2 ^ 32 + gr) * 2 ^ 32 + pr → (rr * 2 ^ 32 + gr) * 2 ^ 32 + pr ≤ (rz * 2 ^ 32 + gz) * 2 ^ 32 + pz
    → (rr ≡ rx) × (gr ≡ gx)
keys_close rx gx px rr gr pr rz gz pz a b c d e f g low high = (omega (arith, a, b, c, d, e, f, g, low, high), omega (arith, a, b, c, d, e, f, g, low, high))

module _ (files : List File) (b : Bindings) (pools : List Pool) (words : ℕ) (leaders : List (Option ℕ)) (few : section_total files ≤ 2 ^ 28) (class : Class) where
  abbrev its : List Item
  its = items files b pools words leaders

  abbrev order : List Row
  order = order_of class its

  abbrev R : Row → Row → Type 0
  R = Later key_of (Seated pools)

  -- what is known of a row
  record IsKnown (r : Row) : Type 0 where
    row : IsRowOf class its r
    item : IsItem files b pools words leaders row.item
    group : r.group < 2 ^ 32
    priority : r.priority < 2 ^ 32

  known : (r : Row) → IsRowOf class its r → IsKnown r
  known r is =
      let are = items_are files b pools words leaders few in
      let own = group_of_row class its r is in
      record {
        row = is;
        item = subst (IsItem files b pools words leaders) (is.at is.item) (are.all is.number is.item is.low);
        group = omega (arith, own.low, are.few, few);
        priority = omega (arith, is.has.priority, priority_low is.item.name);
      }

  key_low : (r s : Row) → R r s → key_of r ≤ key_of s
  key_low r s is = elim is [ inl less ↦ omega (arith, less) | inr (same, seated) ↦ omega (arith, same) ]

  module _ (p q : ℕ) (less : p < q) (q_low : q < length order) (groups : (get_or order p no_row).group ≡ (get_or order q no_row).group)
      (ranks : (get_or order p no_row).rank ≡ (get_or order q no_row).rank) where
    abbrev xr : Row
    xr = get_or order p no_row

    abbrev yr : Row
    yr = get_or order q no_row

    -- a row that stands between the two is of their output section
    mid_is : (r : Row) → IsRowOf class its r → R xr r → R r yr → r.group ≡ xr.group
    mid_is r is after_x before_y =
        let xk = known xr (rows_are class its p no_row (omega (arith, less, q_low))) in
        let yk = known yr (rows_are class its q no_row q_low) in
        let rk = known r is in
        (keys_close xr.rank xr.group xr.priority r.rank r.group r.priority yr.rank yr.group yr.priority xk.priority rk.priority yk.priority xk.group rk.group (sym ranks) (sym groups)
        (omega (arith, key_low xr r after_x, key_is xr, key_is r)) (omega (arith, key_low r yr before_y, key_is r, key_is yr))).1

    module _ (P : Member → Type 0) (sizes : List (List Cut)) (c : Cursor) (upper : ℕ → ℕ) (some : All (λ r. 1 ≤ r.align) order) (full : 0 < (get_or order p no_row).size + (get_or order q no_row).size)
        (fits : (at : ℕ) (r : Row) → P (member_at sizes at r) → size_at sizes at r ≤ most upper r.content r.size) (all : All P (members_along sizes c (runs order))) where
      -- the two, and the rows between them
      pub record AreClose : Type 0 where
        pub mid : List Row
        pub long : p + 1 + length mid ≡ q
        pub at : (k : ℕ) → k < length mid → get_or mid k no_row ≡ get_or order (p + 1 + k) no_row
        pub first : ℕ
        pub second : ℕ
        pub one : P (member_at sizes first xr)
        pub other : P (member_at sizes second yr)
        pub after_first : first + size_at sizes first xr ≤ second
        pub near : second ≤ first + size_at sizes first xr + sum_by (λ r. (r.align - 1) + most upper r.content r.size) mid + (yr.align - 1)

      pub close : AreClose
      close =
          let split = split_two order p q no_row less q_low in
          let pairs : Pairs R (split.pre ++ (xr ∷ (split.mid ++ (yr ∷ split.post)))) = subst (Pairs R) split.is (ordered class pools its (items_are files b pools words leaders few).pairs) in
          let rows : All (IsRowOf class its) (split.pre ++ (xr ∷ (split.mid ++ (yr ∷ split.post)))) = subst (All (IsRowOf class its)) split.is (rows_are class its) in
          let aligned : All (λ (r : Row). 1 ≤ r.align) (split.pre ++ (xr ∷ (split.mid ++ (yr ∷ split.post)))) = subst (All (λ (r : Row). 1 ≤ r.align)) split.is some in
          let rest = pairs_rest R split.pre (xr ∷ (split.mid ++ (yr ∷ split.post))) pairs in
          let after_x : All (R xr) split.mid = all_front (R xr) split.mid (yr ∷ split.post) rest.0 in
          let before_y : All (λ r. R r yr) split.mid = pairs_last R split.mid yr split.post rest.1 in
          let tail_rows = All-tail (IsRowOf class its) xr (split.mid ++ (yr ∷ split.post)) (all_back (IsRowOf class its) split.pre (xr ∷ (split.mid ++ (yr ∷ split.post))) rows) in
          let mid_rows : All (IsRowOf class its) split.mid = all_front (IsRowOf class its) split.mid (yr ∷ split.post) tail_rows in
          let tail_aligned = All-tail (λ (r : Row). 1 ≤ r.align) xr (split.mid ++ (yr ∷ split.post)) (all_back (λ (r : Row). 1 ≤ r.align) split.pre (xr ∷ (split.mid ++ (yr ∷ split.post))) aligned) in
          let mid_aligned : All (λ (r : Row). 1 ≤ r.align) split.mid = all_front (λ (r : Row). 1 ≤ r.align) split.mid (yr ∷ split.post) tail_aligned in
          let y_aligned : 1 ≤ yr.align = All-head (λ (r : Row). 1 ≤ r.align) yr split.post (all_back (λ (r : Row). 1 ≤ r.align) split.mid (yr ∷ split.post) tail_aligned) in
          let G : Row → Type 0 = IsOfGroup xr.group in
          let mids : All G split.mid = λ k d lt. mid_is (get_or split.mid k d) (mid_rows k d lt) (after_x k d lt) (before_y k d lt) in
          let seg : All G (xr ∷ (split.mid ++ (yr ∷ []))) =
          All-cons G xr (split.mid ++ (yr ∷ [])) refl (All-append G split.mid (yr ∷ []) mids (All-cons G yr [] (sym groups) (All-nil G))) in
          let wide : is_empty (xr ∷ (split.mid ++ (yr ∷ []))) ≡ false = empty_either xr split.mid yr full in
          let list : split.pre ++ (xr ∷ (split.mid ++ (yr ∷ split.post))) ≡ split.pre ++ (xr ∷ ((split.mid ++ (yr ∷ [])) ++ split.post)) =
          ap (λ l. split.pre ++ (xr ∷ l)) (joined split.mid yr split.post) in
          let here = run_members P sizes c xr.group split.pre xr (split.mid ++ (yr ∷ [])) split.post seg wide
          (subst (λ l. All P (members_along sizes c (runs l))) (split.is ∙ list) all) in
          let near = two_near P sizes (λ r. most upper r.content r.size) fits here.0 xr yr split.mid y_aligned mid_aligned here.1 in
          record {
            mid = split.mid;
            long = split.long;
            at = split.at;
            first = near.first;
            second = near.second;
            one = near.one;
            other = near.other;
            after_first = near.after_first;
            near = near.near;
          }
        where
          joined : (mid : List Row) (z : Row) (post : List Row) → mid ++ (z ∷ post) ≡ (mid ++ (z ∷ [])) ++ post
          joined [] z post = refl
          joined (r ∷ mid) z post = ap (λ l. r ∷ l) (joined mid z post)
