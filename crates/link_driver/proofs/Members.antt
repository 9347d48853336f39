-- The members of a link, one output section after the other, and the rows of their classes.
use Rattle.std.proofs.Common.{◌≡◌, ℕ, zero, suc, ◌+◌, ◌<◌, ◌≤◌, ◌^◌, ◌==◌, ◌&&◌, true, Option, List, [], length, get_or, refl, sym, ap, ◌∙◌, subst, arith, inl, inr}
use Rattle.std.specs.List.{position_or_len}
use Rattle.std.specs.Str.{bytes_eq}
use Rattle.std.proofs.lemmas.Bool.{and_parts, cases_lt, eq-eqb, eqb-true, false≢true}
use Rattle.std.proofs.lemmas.List.Sums.{fails_before_first, passes_at_first}
use Rattle.lk_tables.specs.declared.classes.Class.{Class}
use Rattle.lk_tables.specs.declared.classes.Class.TheVariants.{R, Rx, TlsBits, TlsNobits, RwBits, RwNobits}
use Rattle.lk_tables.specs.Binding.{Bindings}
use Rattle.lk_tables.specs.Classes.{is_in, class_no}
use Rattle.lk_tables.specs.Files.{File, section_total}
use Rattle.lk_tables.specs.OutputNames.{output_name, priority_of}
use Rattle.link_sections.specs.declared.members.Content.{Content}
use Rattle.link_sections.specs.declared.members.Content.TheVariants.{Section, Pool as IsPool, Got}
use Rattle.link_sections.specs.declared.pools.Pool.{Pool}
use Rattle.link_sections.specs.InputSections.{input_at}
use Rattle.link_sections.specs.Leaders.{leads}
use Rattle.output_sections.specs.declared.rows.Row.{Row}
use Rattle.output_sections.specs.Items.{Item, items}
use Rattle.output_sections.specs.Order.{class_at, item_goes_to, is_content, is_section, key_of, members_in, number_in, order_of, orders_of, rows_in, own_section}
use Rattle.relax.specs.CallSizes.{is_at, member_at, no_member, place_in}
use Rattle.link_driver.proofs.Classes.{class_some, one_class}
use Rattle.link_driver.proofs.Flat.{IsAt, before, find, flat_at, flat_low}
use Rattle.link_driver.proofs.LayoutRows.{Seated, SectionRow, group_of_row, items_are, key_is, no_row, ordered, row_at, rows_are, same_groups, seat, section_row}
use Rattle.link_driver.proofs.Orders.{Later, pair_at}

content_is : (c : Content) → is_content c ≡ true → c ≡ Section (number_in c)
content_is (Section n) is = refl
content_is (IsPool p) is = cc
content_is Got is = cc

no_at : (c : ℕ) → c < 6 → class_no (class_at c) ≡ c
no_at zero lt = refl
no_at (suc zero) lt = refl
no_at (suc (suc zero)) lt = refl
no_at (suc (suc (suc zero))) lt = refl
no_at (suc (suc (suc (suc zero)))) lt = refl
no_at (suc (suc (suc (suc (suc zero))))) lt = refl
no_at (suc (suc (suc (suc (suc (suc n)))))) lt = absurd (omega (arith, lt))

no_low : (class : Class) → class_no class < 6
no_low R = omega arith
no_low Rx = omega arith
no_low TlsBits = omega arith
no_low TlsNobits = omega arith
no_low RwBits = omega arith
no_low RwNobits = omega arith

-- a section's place among members
pub at_place : (ms : List Row) (n : ℕ) → place_in ms n < length ms → (member_at ms (place_in ms n)).content ≡ Section n
unfolding place_in
at_place ms n lt =
    let m : Row = member_at ms (position_or_len (is_at n) ms) in
    let parts = and_parts (is_section m) (own_section m == n) (passes_at_first (is_at n) ms no_member lt) in
    content_is m.content parts.0 ∙ ap (λ k. Section k) (eqb-true (own_section m) n parts.1)

is_at_section : (m : Row) (n : ℕ) → m.content ≡ Section n → is_at n m ≡ true
is_at_section m n is = ap (λ c. is_content c && number_in c == n) is ∙ eq-eqb n n refl

place_most : (ms : List Row) (k n : ℕ) → k < length ms → (member_at ms k).content ≡ Section n → place_in ms n ≤ k
unfolding place_in
place_most ms k n lt is = elim (cases_lt k (position_or_len (is_at n) ms)) [
  | inl early ↦ absurd (false≢true (sym (fails_before_first (is_at n) ms k no_member early) ∙ is_at_section (member_at ms k) n is))
  | inr le ↦ le
]

module _ (files : List File) (b : Bindings) (pools : List Pool) (words : ℕ) (leaders : List (Option ℕ)) (few : section_total files ≤ 2 ^ 28) where
  abbrev its : List Item
  its = items files b pools words leaders

  abbrev ms : List Row
  ms = members_in (orders_of (items files b pools words leaders))

  own_rows : (class : Class) → rows_in (orders_of its) class ≡ order_of class its
  unfolding orders_of
  own_rows R = refl
  own_rows Rx = refl
  own_rows TlsBits = refl
  own_rows TlsNobits = refl
  own_rows RwBits = refl
  own_rows RwNobits = refl

  six : length (orders_of its) ≡ 6
  unfolding orders_of
  six = refl

  -- how many members stand before those of a class
  abbrev pub start : Class → ℕ
  start class = before (orders_of (items files b pools words leaders)) (class_no class)

  -- member k is a row of a class
  pub record IsMember (k : ℕ) : Type 0 where
    pub class : Class
    pub place : ℕ
    pub low : place < length (order_of class (items files b pools words leaders))
    pub is : k ≡ start class + place

  pub member_of : (k : ℕ) → k < length ms → IsMember k
  member_of k lt =
      let at : IsAt (orders_of its) k = find (orders_of its) k lt in
      let class : Class = class_at at.row in
      let number : class_no class ≡ at.row = no_at at.row (omega (arith, at.row_low, six)) in
      let low = at.low in
      let long : length (get_or (orders_of its) at.row []) ≡ length (order_of class its) = ap (λ c. length (get_or (orders_of its) c [])) (sym number) ∙ ap length (own_rows class) in
      record {
        class = class;
        place = at.place;
        low = omega (arith, low, long);
        is = at.is ∙ ap (λ c. before (orders_of its) c + at.place) (sym number);
      }

  pub member_is : (class : Class) (place : ℕ) → place < length (order_of class its) → member_at ms (start class + place) ≡ get_or (order_of class its) place no_row
  member_is class place low =
      let long = ap length (own_rows class) in
      flat_at (orders_of its) (class_no class) place no_row (omega (arith, no_low class, six)) (omega (arith, low, long)) ∙ ap (λ l. get_or l place no_row) (own_rows class)

  pub member_low : (class : Class) (place : ℕ) → place < length (order_of class its) → start class + place < length ms
  member_low class place low =
      let long = ap length (own_rows class) in
      flat_low (orders_of its) (class_no class) place (omega (arith, no_low class, six)) (omega (arith, low, long))

  -- member k is section n, whose class is this one
  pub record Stands (class : Class) (n k : ℕ) : Type 0 where
    pub place : ℕ
    pub is : k ≡ start class + place
    pub row : SectionRow class (items files b pools words leaders) n (input_at files b n) place
    pub same : member_at (members_in (orders_of (items files b pools words leaders))) k ≡ get_or (order_of class (items files b pools words leaders)) place no_row

  stands_at : (class : Class) (n k place : ℕ) → k ≡ start class + place → place < length (order_of class its) → (member_at ms k).content ≡ Section n → Stands class n k
  stands_at class n k place is low content =
      let same : member_at ms k ≡ get_or (order_of class its) place no_row = ap (member_at ms) is ∙ member_is class place low in
      record {
        place = place;
        is = is;
        row = row_at files b pools words leaders few class n place low (sym (ap (λ (r : Row). r.content) same) ∙ content);
        same = same;
      }

  pub stands : (class : Class) (n k : ℕ) → k < length ms → (member_at ms k).content ≡ Section n → is_in class (input_at files b n).sh_type (input_at files b n).flags ≡ true → Stands class n k
  stands class n k lt content of =
      let m = member_of k lt in
      let own = stands_at m.class n k m.place m.is m.low content in
      subst (λ c. Stands c n k) (one_class m.class class (input_at files b n).sh_type (input_at files b n).flags own.row.of of) own

  -- two members of one output section are of one class
  same_class : (i j : ℕ) (x : IsMember i) (y : IsMember j) → (member_at ms i).group ≡ (member_at ms j).group → x.class ≡ y.class
  same_class i j x y near =
      let r : Row = get_or (order_of x.class its) x.place no_row in
      let s : Row = get_or (order_of y.class its) y.place no_row in
      let one = rows_are x.class its x.place no_row x.low in
      let other = rows_are y.class its y.place no_row y.low in
      let group : r.group ≡ s.group =
      sym (ap (λ (m : Row). m.group) (ap (member_at ms) x.is ∙ member_is x.class x.place x.low)) ∙ near ∙ ap (λ (m : Row). m.group) (ap (member_at ms) y.is ∙ member_is y.class y.place y.low) in
      let a = group_of_row x.class its r one in
      let c = group_of_row y.class its s other in
      let d : Item = one.item in
      let item : Item = get_or its r.group d in
      let first = and_parts (is_in x.class item.sh_type item.flags) (bytes_eq (output_name item.name) (output_name one.item.name)) (a.goes d) in
      let second = and_parts (is_in y.class item.sh_type item.flags) (bytes_eq (output_name item.name) (output_name other.item.name))
      (ap (λ k. item_goes_to y.class (output_name other.item.name) (get_or its k d)) group ∙ c.goes d) in
      one_class x.class y.class item.sh_type item.flags first.0 second.0

  pub class_of : (class : Class) (n m i j : ℕ) → i < length ms → j < length ms → (member_at ms i).content ≡ Section n → (member_at ms j).content ≡ Section m
      → (member_at ms i).group ≡ (member_at ms j).group → is_in class (input_at files b n).sh_type (input_at files b n).flags ≡ true
      → is_in class (input_at files b m).sh_type (input_at files b m).flags ≡ true
  class_of class n m i j i_low j_low i_is j_is near of =
      let x = member_of i i_low in
      let y = member_of j j_low in
      let one = stands_at x.class n i x.place x.is x.low i_is in
      let other = stands_at y.class m j y.place y.is y.low j_is in
      let same : y.class ≡ class = sym (same_class i j x y near) ∙ one_class x.class class (input_at files b n).sh_type (input_at files b n).flags one.row.of of in
      subst (λ c. is_in c (input_at files b m).sh_type (input_at files b m).flags ≡ true) same other.row.of

  -- no section is a member twice
  same_key : (class : Class) (n p q : ℕ) → SectionRow class its n (input_at files b n) p → SectionRow class its n (input_at files b n) q
      → key_of (get_or (order_of class its) p no_row) ≡ key_of (get_or (order_of class its) q no_row)
  same_key class n p q x y =
      let r : Row = get_or (order_of class its) p no_row in
      let s : Row = get_or (order_of class its) q no_row in
      let name : x.is.item.name ≡ y.is.item.name = x.name ∙ sym y.name in
      let groups = same_groups class its r s x.is y.is (ap output_name name) in
      let priority : r.priority ≡ s.priority = x.is.has.priority ∙ ap priority_of name ∙ sym y.is.has.priority in
      let g = groups.0 in
      let k = groups.1 in
      omega (arith, key_is r, key_is s, g, k, priority)

  not_before : (class : Class) (n p q : ℕ) → SectionRow class its n (input_at files b n) p → SectionRow class its n (input_at files b n) q → p < q → ⊥
  not_before class n p q x y less =
      let key = same_key class n p q x y in
      let contents = x.content ∙ sym y.content in
      elim (pair_at (Later key_of (Seated pools)) (order_of class its) p q no_row (ordered class pools its (items_are files b pools words leaders few).pairs) less y.low) [
        | inl up ↦ absurd (omega (arith, up, key))
        | inr (tie, seated) ↦ absurd (omega (arith, seated, ap (seat pools) contents))
      ]

  pub place_is : (k n : ℕ) → k < length ms → (member_at ms k).content ≡ Section n → place_in ms n ≡ k
  place_is k n lt content =
      let m = member_of k lt in
      let class : Class = m.class in
      let y = stands_at class n k m.place m.is m.low content in
      let most = place_most ms k n lt content in
      let i_low : place_in ms n < length ms = omega (arith, most, lt) in
      let x = stands class n (place_in ms n) i_low (at_place ms n i_low) y.row.of in
      let xi = x.is in
      let yi = y.is in
      elim (cases_lt (place_in ms n) k) [
        | inl less ↦ absurd (not_before class n x.place y.place x.row y.row (omega (arith, less, xi, yi)))
        | inr past ↦ omega (arith, past, most)
      ]

  -- a section that is its own leader is one
  pub place_low : (n : ℕ) → n < section_total files → leads leaders n ≡ true → place_in ms n < length ms
  place_low n lt leader =
      let some = class_some (input_at files b n).sh_type (input_at files b n).flags in
      let class : Class = some.0 in
      let own = section_row files b pools words leaders few class n lt leader some.1 in
      let row = own.1 in
      let k_low = member_low class own.0 row.low in
      let same = member_is class own.0 row.low in
      let most = place_most ms (start class + own.0) n k_low (ap (λ (r : Row). r.content) same ∙ row.content) in
      omega (arith, most, k_low)
