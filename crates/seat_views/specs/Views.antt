-- What a rule may say of the views of all seats at a table. A view that is not live was joined into another, and no rule speaks of it.
use Rattle.std.specs.Prelude.{◌≡◌, ℕ, ◌+◌, Bool, true, List, [], ◌∷◌, if◌then◌else◌}
use mathlib.Core.Option.{some}
use lib.ListN.{get_elem?}

module _ {V : Type 0} (live : V → Bool) where
  -- each live view is so
  abbrev pub EachView : (V → Type 0) → List V → Type 0
  EachView Is views = (seat : ℕ) (v : V) → get_elem? views seat ≡ some v → live v ≡ true → Is v

  -- one live view is so
  pub record SomeView (Is : V → Type 0) (views : List V) : Type 0 where
    pub seat : ℕ
    pub view : V
    pub at : get_elem? views seat ≡ some view
    pub lives : live view ≡ true
    pub is : Is view

  -- what a view adds to a total over all live views
  abbrev pub counted : (V → ℕ) → V → ℕ
  counted amount v = if live v then amount v else 0

  -- what all live views have together
  abbrev pub total_of : (V → ℕ) → List V → ℕ
  total_of amount [] = 0
  total_of amount (v ∷ views) = counted amount v + total_of amount views
