-- What all live views have together, after a view was changed or added, and where each counts twice.
use Rattle.std.proofs.Common.{◌≡◌, ℕ, zero, suc, ◌+◌, ◌*◌, ◌≤◌, Bool, true, false, List, [], ◌∷◌, ◌++◌, set, refl, sym, ap, if◌then◌else◌, arith}
use mathlib.Core.Option.{some, some-injective, some-ne-none}
use lib.ListN.{get_elem?}
use Rattle.seat_views.specs.Views.{EachView, counted, total_of}

twice_if : (b : Bool) (m n : ℕ) → (b ≡ true → n ≡ 2 * m) → (if b then n else 0) ≡ 2 * (if b then m else 0)
twice_if true m n twice = twice refl
twice_if false m n twice = refl

module _ {V : Type 0} (live : V → Bool) where
  pub total_more : (amount : V → ℕ) (views : List V) (w : V) → total_of live amount (views ++ w ∷ []) ≡ total_of live amount views + counted live amount w
  total_more amount [] w = omega arith
  total_more amount (v ∷ views) w = let more = total_more amount views w in omega (arith, more)

  pub total_set : (amount : V → ℕ) (views : List V) (id : ℕ) (v w : V) → get_elem? views id ≡ some v
      → total_of live amount (set views id w) + counted live amount v ≡ total_of live amount views + counted live amount w
  total_set amount [] id v w at = absurd (some-ne-none v (sym at))
  total_set amount (x ∷ views) zero v w at = let same : counted live amount x ≡ counted live amount v = ap (counted live amount) (some-injective x v at) in omega (arith, same)
  total_set amount (x ∷ views) (suc id) v w at = let rest = total_set amount views id v w at in omega (arith, rest)

  pub total_twice : (amount double : V → ℕ) (views : List V) → EachView live (λ v. double v ≡ 2 * amount v) views → total_of live double views ≡ 2 * total_of live amount views
  total_twice amount double [] each = refl
  total_twice amount double (v ∷ views) each =
      let here : counted live double v ≡ 2 * counted live amount v = twice_if (live v) (amount v) (double v) (each zero v refl) in
      let rest = total_twice amount double views (λ seat u at lives. each (suc seat) u at lives) in
      omega (arith, here, rest)

  -- a live view adds what it has, and a spent one nothing
  counted_live : (amount : V → ℕ) (v : V) → live v ≡ true → counted live amount v ≡ amount v
  counted_live amount v lives = ap (λ (b : Bool). if b then amount v else 0) lives

  counted_spent : (amount : V → ℕ) (v : V) → live v ≡ false → counted live amount v ≡ 0
  counted_spent amount v gone = ap (λ (b : Bool). if b then amount v else 0) gone

  -- no view has more than all together
  pub one_of_total : (amount : V → ℕ) (views : List V) (id : ℕ) (v : V) → get_elem? views id ≡ some v → live v ≡ true → amount v ≤ total_of live amount views
  one_of_total amount [] id v at lives = absurd (some-ne-none v (sym at))
  one_of_total amount (x ∷ views) zero v at lives =
      let same : counted live amount x ≡ counted live amount v = ap (counted live amount) (some-injective x v at) in
      let own = counted_live amount v lives in
      omega (arith, same, own)
  one_of_total amount (x ∷ views) (suc id) v at lives = let rest = one_of_total amount views id v at lives in omega (arith, rest)

  -- a step that gives its seat more
  pub total_step : (amount : V → ℕ) (views : List V) (id : ℕ) (v w : V) (more : ℕ) → get_elem? views id ≡ some v → live v ≡ true → live w ≡ true → amount w ≡ amount v + more
      → total_of live amount (set views id w) ≡ total_of live amount views + more
  total_step amount views id v w more at lives on is =
      let set_is = total_set amount views id v w at in
      let was = counted_live amount v lives in
      let now = counted_live amount w on in
      omega (arith, set_is, was, now, is)

  -- a split after which both have together what one had
  pub total_split : (amount : V → ℕ) (views : List V) (id : ℕ) (v left right : V) → get_elem? views id ≡ some v → live v ≡ true → live left ≡ true → live right ≡ true → amount left + amount right ≡ amount v
      → total_of live amount (set views id left ++ right ∷ []) ≡ total_of live amount views
  total_split amount views id v left right at lives on_left on_right is =
      let set_is = total_set amount views id v left at in
      let more = total_more amount (set views id left) right in
      let was = counted_live amount v lives in
      let one = counted_live amount left on_left in
      let two = counted_live amount right on_right in
      omega (arith, set_is, more, was, one, two, is)

  -- a join after which one has what both had
  pub total_join : (amount : V → ℕ) (views : List V) (id other : ℕ) (v w both spent : V) → get_elem? views id ≡ some v → live v ≡ true → get_elem? (set views id both) other ≡ some w → live w ≡ true
      → live both ≡ true → live spent ≡ false → amount both ≡ amount v + amount w → total_of live amount (set (set views id both) other spent) ≡ total_of live amount views
  total_join amount views id other v w both spent at lives there alive on gone is =
      let set_is = total_set amount views id v both at in
      let spent_is = total_set amount (set views id both) other w spent there in
      let was = counted_live amount v lives in
      let also = counted_live amount w alive in
      let now = counted_live amount both on in
      let none = counted_spent amount spent gone in
      omega (arith, set_is, spent_is, was, also, now, none, is)
