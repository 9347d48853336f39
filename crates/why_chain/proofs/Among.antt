-- Numbers that are in a list.
use Rattle.std.proofs.Common.{◌≡◌, ℕ, ◌<◌, List, length, get_or, Contains, sym, ◌∙◌}
use Rattle.std.proofs.lemmas.Grind.{get_or_default_zero}

-- where a number stands, read with the default 0
pub record IsAt (xs : List ℕ) (x : ℕ) : Type 0 where
  pub place : ℕ
  pub inside : place < length xs
  pub is : get_or xs place 0 ≡ x

pub stands_at : (xs : List ℕ) (x : ℕ) → Contains xs x → IsAt xs x
stands_at xs x has = record { place = has.0; inside = has.1; is = sym (get_or_default_zero xs has.0 x has.1) ∙ has.2 }

pub stands : (xs : List ℕ) (i x : ℕ) → i < length xs → get_or xs i 0 ≡ x → Contains xs x
stands xs i x less is = (i, less, get_or_default_zero xs i x less ∙ is)
