-- Elements by the numbers that they have.
use Rattle.std.specs.Prelude.{◌≡◌, ℕ, ◌==◌, ◌<◌, List, length, slice_index, slice_index_or}
use Rattle.std.specs.List.{filter, range_with_len}
use Rattle.std.specs.Global.{Vec}

-- the indexes below n at which the list has a number
unfoldable pub having : List ℕ → (n number : ℕ) → List ℕ
having numbers n number = filter (λ i. slice_index numbers i == number) (range_with_len 0 n)

-- list number p has the indexes below n at which the number is p
pub record AreMembers (numbers : List ℕ) (count n : ℕ) (lists : List (Vec ℕ)) : Type 0 where
  pub count_is : length lists ≡ count
  pub each : (p : ℕ) (d : Vec ℕ) → p < count → (slice_index_or lists p d).items ≡ having numbers n p
