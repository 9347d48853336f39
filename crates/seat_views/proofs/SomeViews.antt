-- If one live view is so, one is so after a step, a split and a join.
use Rattle.std.proofs.Common.{◌≡◌, ◌≢◌, ℕ, Bool, true, List, [], ◌∷◌, ◌++◌, set, sym, ◌∙◌, subst, ⊎_elim}
use Rattle.std.proofs.lemmas.Bool.{cases_eq}
use mathlib.Core.Option.{some}
use lib.ListN.{get_elem?}
use Rattle.atomic_table.proofs.Lists.{at_longer, set_else}
use Rattle.seat_views.specs.Views.{SomeView}
use Rattle.seat_views.proofs.Places.{same_view, set_there}

module _ {V : Type 0} (live : V → Bool) where
  -- some view: the seat that has it makes a step, or another does
  pub some_step : (Is : V → Type 0) (views : List V) (id : ℕ) (v w : V) → get_elem? views id ≡ some v → live w ≡ true → (Is v → Is w)
      → SomeView live Is views → SomeView live Is (set views id w)
  some_step Is views id v w at lives goes one = ⊎_elim
      (λ (mine : one.seat ≡ id). let same = same_view views one.seat id one.view v mine one.at at in
      record { seat = id; view = w; at = set_there views id v w at; lives = lives; is = goes (subst Is same one.is) })
      (λ (far : one.seat ≢ id). record { seat = one.seat; view = one.view; at = set_else views id one.seat w far ∙ one.at; lives = one.lives; is = one.is })
      (cases_eq one.seat id)

  -- the seat's own new view
  pub some_here : (Is : V → Type 0) (views : List V) (id : ℕ) (v w : V) → get_elem? views id ≡ some v → live w ≡ true → Is w → SomeView live Is (set views id w)
  some_here Is views id v w at lives is = record { seat = id; view = w; at = set_there views id v w at; lives = lives; is = is }

  pub some_more : (Is : V → Type 0) (views : List V) (w : V) → SomeView live Is views → SomeView live Is (views ++ w ∷ [])
  some_more Is views w one = record { seat = one.seat; view = one.view; at = at_longer views (w ∷ []) one.seat one.view one.at; lives = one.lives; is = one.is }

  -- a seat that is split keeps what it has
  pub some_split : (Is : V → Type 0) (views : List V) (id : ℕ) (v left right : V) → get_elem? views id ≡ some v → live left ≡ true → (Is v → Is left)
      → SomeView live Is views → SomeView live Is (set views id left ++ right ∷ [])
  some_split Is views id v left right at lives goes one = some_more Is (set views id left) right (some_step Is views id v left at lives goes one)

  -- what either of two seats has, the joined one has
  pub some_join : (Is : V → Type 0) (views : List V) (id other : ℕ) (v w both spent : V) → get_elem? views id ≡ some v → ¬ (other ≡ id) → get_elem? views other ≡ some w → live both ≡ true
      → (Is v → Is both) → (Is w → Is both) → SomeView live Is views → SomeView live Is (set (set views id both) other spent)
  some_join Is views id other v w both spent at apart there lives mine theirs one =
      let ne : id ≢ other = λ same. apart (sym same) in
      let here : get_elem? (set (set views id both) other spent) id ≡ some both = set_else (set views id both) other id spent ne ∙ set_there views id v both at in
      ⊎_elim
      (λ (joined : one.seat ≡ other). let same = same_view views one.seat other one.view w joined one.at there in
      record { seat = id; view = both; at = here; lives = lives; is = theirs (subst Is same one.is) })
      (λ (past : one.seat ≢ other). ⊎_elim
      (λ (own : one.seat ≡ id). let same = same_view views one.seat id one.view v own one.at at in
      record { seat = id; view = both; at = here; lives = lives; is = mine (subst Is same one.is) })
      (λ (far : one.seat ≢ id). record {
        seat = one.seat;
        view = one.view;
        at = set_else (set views id both) other one.seat spent past ∙ set_else views id one.seat both far ∙ one.at;
        lives = one.lives;
        is = one.is;
      })
      (cases_eq one.seat id))
      (cases_eq one.seat other)
