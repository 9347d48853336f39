-- The number in the first bytes of a list.
use Rattle.std.proofs.Common.{◌≡◌, ℕ, zero, suc, ◌+◌, ◌*◌, ◌≤◌, List, length, take, get_or, refl, ap, ◌∙◌, arith, sym}
use Rattle.std.proofs.lemmas.List.{get_or-take, length-take-le}
use Rattle.byteorder.specs.Endian.{little_from, little_number}
use Rattle.rv_code.specs.Places.{number_of}

little_taken : (n i w : ℕ) (xs : List ℕ) → i + n ≤ w → little_from i n (take w xs) ≡ little_from i n xs
little_taken zero i w xs le = refl
little_taken (suc n) i w xs le =
    ap (λ x. x + 256 * little_from (suc i) n (take w xs)) (get_or-take w xs i 0 (omega (arith, le)))
    ∙ ap (λ x. get_or xs i 0 + 256 * x) (little_taken n (suc i) w xs (omega (arith, le)))

pub first_number : (w : ℕ) (xs : List ℕ) → w ≤ length xs → little_number w xs ≡ number_of (take w xs)
first_number w xs le =
    sym (ap (λ n. little_number n (take w xs)) (length-take-le w xs le) ∙ little_taken w 0 w xs (omega arith))
