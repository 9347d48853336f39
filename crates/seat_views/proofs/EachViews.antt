-- What holds of each live view holds after a step, a split and a join.
use Rattle.std.proofs.Common.{◌≡◌, ◌≢◌, ℕ, zero, suc, Bool, true, false, List, [], ◌∷◌, ◌++◌, set, sym, ◌∙◌, subst, ⊎_elim}
use mathlib.Core.Option.{some, some-injective, some-ne-none}
use lib.ListN.{get_elem?}
use Rattle.atomic_table.proofs.Lists.{at_set, at_snoc}
use Rattle.seat_views.specs.Views.{EachView}

module _ {V : Type 0} (live : V → Bool) where
  -- a new table has one view
  pub each_first : (Is : V → Type 0) (v : V) → Is v → EachView live Is (v ∷ [])
  each_first Is v is zero w at lives = subst Is (some-injective v w at) is
  each_first Is v is (suc seat) w at lives = absurd (some-ne-none w (sym at))

  -- a step: the seat has a new view, and the others are so as before
  pub each_step : (Was Is : V → Type 0) (views : List V) (id : ℕ) (w : V) → ((v : V) → Was v → Is v) → (live w ≡ true → Is w) → EachView live Was views → EachView live Is (set views id w)
  each_step Was Is views id w stays here each seat v at lives =
      let P : V → Type 0 = λ u. live u ≡ true → Is u in
      ⊎_elim
      (λ (mine : (seat ≡ id) × (w ≡ v)). subst P mine.1 here lives)
      (λ (other : (seat ≢ id) × (get_elem? views seat ≡ some v)). stays v (each seat v other.1 lives))
      (at_set views id seat w v at)

  pub each_more : (Is : V → Type 0) (views : List V) (w : V) → (live w ≡ true → Is w) → EachView live Is views → EachView live Is (views ++ w ∷ [])
  each_more Is views w here each seat v at lives =
      let P : V → Type 0 = λ u. live u ≡ true → Is u in
      ⊎_elim
      (λ (old : get_elem? views seat ≡ some v). each seat v old lives)
      (λ (new : w ≡ v). subst P new here lives)
      (at_snoc views w v seat at)

  -- a split: the view is cut in two
  pub each_split : (Is : V → Type 0) (views : List V) (id : ℕ) (left right : V) → (live left ≡ true → Is left) → (live right ≡ true → Is right) → EachView live Is views
      → EachView live Is (set views id left ++ right ∷ [])
  each_split Is views id left right one two each = each_more Is (set views id left) right two (each_step Is Is views id left (λ v is. is) one each)

  -- a join: the other view is spent, and no longer live
  pub each_join : (Is : V → Type 0) (views : List V) (id other : ℕ) (both spent : V) → (live both ≡ true → Is both) → live spent ≡ false → EachView live Is views
      → EachView live Is (set (set views id both) other spent)
  each_join Is views id other both spent joined gone each =
      each_step Is Is (set views id both) other spent (λ v is. is) (λ lives. let wrong : false ≡ true = sym gone ∙ lives in cc) (each_step Is Is views id both (λ v is. is) joined each)
