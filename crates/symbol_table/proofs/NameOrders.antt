-- A list in order of names, of which those that repeat a name are left out.
use Rattle.std.proofs.Common.{◌≡◌, ℕ, Bool, true, false, cond, Option, Some, None, List, [], ◌∷◌, ◌++◌, refl, sym, ap, ◌∙◌, inl, inr}
use Rattle.std.specs.declared.cmp.Ordering.{Ordering}
use Rattle.std.specs.declared.cmp.Ordering.TheVariants.{Less, Equal, Greater}
use Rattle.std.specs.Ordering.{nat_cmp, ordering_reverse, is_lt, is_eq}
use Rattle.std.specs.Cmp.Lexicographic.{slice_cmp}
use Rattle.std.specs.Str.{bytes_eq}
use Rattle.std.proofs.lemmas.Bool.{cases_Bool}
use Rattle.std.proofs.lemmas.Cmp.{nat_list_cmp_total}
use Rattle.std.proofs.lemmas.Map.Text.{is_eq-slice_cmp}
use Rattle.std.proofs.lemmas.Slice.Eq.{bytes_eq-Decides}
use Rattle.symbol_table.specs.NameOrder.{by_name, put_by, put_in}
use Rattle.symbol_table.specs.Repeats.{firsts_after, one_unless, repeats}
use Rattle.symbol_table.proofs.StableSort.{insert, insert_all}

abbrev order : (a b : List ℕ) → Ordering
order a b = slice_cmp nat_cmp a b

abbrev pub less : (a b : List ℕ) → Bool
less a b = is_lt (slice_cmp nat_cmp a b)

-- how the tests of two names go together
pub record Tells (o : Ordering) (below same : Bool) : Type 0 where
  pub at_less : o ≡ Less → (below ≡ false) × (same ≡ false)
  pub at_equal : o ≡ Equal → (below ≡ false) × (same ≡ true)
  pub at_greater : o ≡ Greater → (below ≡ true) × (same ≡ false)

by_orders : (o p : Ordering) (same : Bool) → p ≡ ordering_reverse o → is_eq o ≡ same → Tells o (is_lt p) same
by_orders Less p same back eq = record { at_less = λ e. (ap is_lt back, sym eq); at_equal = λ e. cc; at_greater = λ e. cc }
by_orders Equal p same back eq = record { at_less = λ e. cc; at_equal = λ e. (ap is_lt back, sym eq); at_greater = λ e. cc }
by_orders Greater p same back eq = record { at_less = λ e. cc; at_equal = λ e. cc; at_greater = λ e. (ap is_lt back, sym eq) }

tells : (a c : List ℕ) → Tells (order a c) (less c a) (bytes_eq a c)
tells a c = by_orders (order a c) (order c a) (bytes_eq a c) (nat_list_cmp_total.antisymm c a) (is_eq-slice_cmp a c)

module _ {X : Type 0} (name : X → List ℕ) where
  abbrev below : X → X → Bool
  below x y = less (name x) (name y)

  -- a name that stands before x, and before all that are not less than x
  record IsBefore (x : X) (before : Option (List ℕ)) : Type 0 where
    pub own : repeats before (name x) ≡ false
    pub others : (z : X) → below z x ≡ false → repeats before (name z) ≡ false

  before_none : (x : X) → IsBefore x None
  before_none x = record { own = refl; others = λ z le. refl }

  same_differ : {A : Type 0} (b : Bool) → b ≡ true → b ≡ false → A
  same_differ true is is_not = cc
  same_differ false is is_not = cc

  before_some : (x y : X) → below y x ≡ true → IsBefore x (Some (name y))
  before_some x y is = record {
    own = elim (cases_Bool (bytes_eq (name y) (name x))) [
      | inl same ↦
          let e : name y ≡ name x = (bytes_eq-Decides (name y) (name x)).0 same in
          let itself : bytes_eq (name x) (name x) ≡ true = (bytes_eq-Decides (name x) (name x)).1 refl in
          let t = tells (name x) (name x) in
          let P : (below x x ≡ true) = ap (λ n. less n (name x)) (sym e) ∙ is in
          same_differ (below x x) P (not_below_itself (name x))
      | inr other ↦ other
    ];
    others = λ z le. elim (cases_Bool (bytes_eq (name y) (name z))) [
      | inl same ↦
          let e : name y ≡ name z = (bytes_eq-Decides (name y) (name z)).0 same in
          same_differ (below z x) (ap (λ n. less n (name x)) (sym e) ∙ is) le
      | inr other ↦ other
    ];
  }
    where
      not_below_itself : (a : List ℕ) → less a a ≡ false
      not_below_itself a = by (order a a) (tells a a) ((bytes_eq-Decides a a).1 refl)
        where
          by : (o : Ordering) → Tells o (less a a) (bytes_eq a a) → bytes_eq a a ≡ true → less a a ≡ false
          by Less t same = (t.at_less refl).0
          by Equal t same = (t.at_equal refl).0
          by Greater t same = same_differ (bytes_eq a a) same (t.at_greater refl).1

  -- x before z
  put_here : (o : Ordering) (x z : X) (rest among : List X) → Tells o (below z x) (bytes_eq (name x) (name z)) → below z x ≡ false
      → x ∷ (one_unless (bytes_eq (name x) (name z)) z ++ rest) ≡ put_by o x z rest among
  put_here Less x z rest among t le = ap (λ b. x ∷ (one_unless b z ++ rest)) (t.at_less refl).1
  put_here Equal x z rest among t le = ap (λ b. x ∷ (one_unless b z ++ rest)) (t.at_equal refl).1
  put_here Greater x z rest among t le = same_differ (below z x) (t.at_greater refl).0 le

  -- z before x
  put_later : (o : Ordering) (x z : X) (rest among : List X) → Tells o (below z x) (bytes_eq (name x) (name z)) → below z x ≡ true
      → z ∷ among ≡ put_by o x z rest among
  put_later Less x z rest among t is = same_differ (below z x) is (t.at_less refl).0
  put_later Equal x z rest among t is = same_differ (below z x) is (t.at_equal refl).0
  put_later Greater x z rest among t is = refl

  skip_or_put : (b : Bool) (x z : X) (rest : List X) → below z x ≡ true → one_unless b z ++ put_in name x rest ≡ put_in name x (one_unless b z ++ rest)
  skip_or_put true x z rest is = refl
  skip_or_put false x z rest is = put_later (order (name x) (name z)) x z rest (put_in name x rest) (tells (name x) (name z)) is

  put_firsts : (before : Option (List ℕ)) (x : X) (ys : List X) → IsBefore x before
      → firsts_after name before (insert below x ys) ≡ put_in name x (firsts_after name before ys)
  put_firsts before x [] is = ap (λ b. one_unless b x ++ []) is.own
  put_firsts before x (z ∷ zs) is = elim (cases_Bool (below z x)) [
    | inl later ↦
        ap (λ b. firsts_after name before (cond b (z ∷ insert below x zs) (x ∷ (z ∷ zs)))) later
        ∙ ap (λ l. one_unless (repeats before (name z)) z ++ l) (put_firsts (Some (name z)) x zs (before_some x z later))
        ∙ skip_or_put (repeats before (name z)) x z (firsts_after name (Some (name z)) zs) later
    | inr here ↦
        ap (λ b. firsts_after name before (cond b (z ∷ insert below x zs) (x ∷ (z ∷ zs)))) here
        ∙ ap (λ b. one_unless b x ++ firsts_after name (Some (name x)) (z ∷ zs)) is.own
        ∙ put_here (order (name x) (name z)) x z (firsts_after name (Some (name z)) zs) (put_in name x (firsts_after name (Some (name z)) zs)) (tells (name x) (name z)) here
        ∙ ap (λ b. put_in name x (one_unless b z ++ firsts_after name (Some (name z)) zs)) (sym (is.others z here))
  ]

  pub firsts_are : (xs : List X) → firsts_after name None (insert_all below xs) ≡ by_name name xs
  unfolding by_name
  firsts_are [] = refl
  firsts_are (x ∷ xs) = put_firsts None x (insert_all below xs) (before_none x) ∙ ap (put_in name x) (firsts_are xs)
