-- Numbers that a list has, read with 0 past its end.
use Rattle.std.proofs.Common.{◌≡◌, ℕ, ◌<◌, List, length, get_or, Contains, sym, ◌∙◌}
use Rattle.std.proofs.lemmas.Grind.{get_or_default_zero}

pub record IsAt (xs : List ℕ) (x : ℕ) : Type 0 where
  pub k : ℕ
  pub within : k < length xs
  pub is : get_or xs k 0 ≡ x

pub place_of : (xs : List ℕ) (x : ℕ) → Contains xs x → IsAt xs x
place_of xs x (k, lt, e) = record { k = k; within = lt; is = sym (get_or_default_zero xs k x lt) ∙ e }

pub has_at : (xs : List ℕ) (x k : ℕ) → k < length xs → get_or xs k 0 ≡ x → Contains xs x
has_at xs x k lt e = (k, lt, get_or_default_zero xs k x lt ∙ e)
