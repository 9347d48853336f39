-- Lists of numbers in an order: shorter ones first, and those of one length by the first place where they differ.
use Rattle.std.specs.Prelude.{◌≡◌, ◌⊎◌, ℕ, zero, suc, ◌<◌, List, [], ◌∷◌, length, map, flat_map}
use Rattle.std.specs.List.{range_with_len}

-- all lists of n numbers below a bound, and all lists of fewer than `count`, in this order
abbrev pub lists_of : (bound n : ℕ) → List (List ℕ)
lists_of bound zero = [] ∷ []
lists_of bound (suc n) = flat_map (λ first. map (λ rest. first ∷ rest) (lists_of bound n)) (range_with_len 0 bound)

unfoldable pub short_lists : (bound count : ℕ) → List (List ℕ)
short_lists bound count = flat_map (lists_of bound) (range_with_len 0 count)

-- a list has the lesser number at the first place where it differs from another
abbrev pub ComesBefore : List ℕ → List ℕ → Type 0
ComesBefore [] ys = ⊥
ComesBefore (x ∷ xs) [] = ⊥
ComesBefore (x ∷ xs) (y ∷ ys) = (x < y) ⊎ ((x ≡ y) × ComesBefore xs ys)

-- it is shorter than another, or as long and comes before it
abbrev pub Before : List ℕ → List ℕ → Type 0
Before xs ys = (length xs < length ys) ⊎ ((length xs ≡ length ys) × ComesBefore xs ys)

abbrev pub NotAfter : List ℕ → List ℕ → Type 0
NotAfter xs ys = (xs ≡ ys) ⊎ Before xs ys
