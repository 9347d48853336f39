-- The view that a seat has, after the list of views was changed at one place.
use Rattle.std.proofs.Common.{◌≡◌, ℕ, zero, suc, List, [], ◌∷◌, set, refl, sym, ◌∙◌, subst}
use mathlib.Core.Option.{some, some-injective, some-ne-none}
use lib.ListN.{get_elem?}
use Rattle.atomic_table.proofs.Lists.{set_else}

-- a view that is set is there, if one was
pub set_there : {V : Type 0} (views : List V) (id : ℕ) (v w : V) → get_elem? views id ≡ some v → get_elem? (set views id w) id ≡ some w
set_there [] id v w at = absurd (some-ne-none v (sym at))
set_there (x ∷ views) zero v w at = refl
set_there (x ∷ views) (suc id) v w at = set_there views id v w at

-- a seat has one view
pub same_view : {V : Type 0} (views : List V) (seat id : ℕ) (u v : V) → seat ≡ id → get_elem? views seat ≡ some u → get_elem? views id ≡ some v → u ≡ v
same_view {V} views seat id u v same at here = let P : ℕ → Type 0 = λ k. get_elem? views k ≡ some u in some-injective u v (sym (subst P same at) ∙ here)

-- the view of a seat that is joined, which is not the one that takes it in
pub other_view : {V : Type 0} (views : List V) (id other : ℕ) (both w : V) → ¬ (other ≡ id) → get_elem? (set views id both) other ≡ some w → get_elem? views other ≡ some w
other_view views id other both w apart at = sym (set_else views id other both apart) ∙ at
