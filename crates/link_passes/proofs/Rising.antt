-- Lists that rise by the numbers of files and sections, as walks make them.
use Rattle.std.proofs.Common.{ℕ, zero, suc, ◌+◌, ◌<◌, ◌≤◌, Bool, true, false, List, [], ◌∷◌, ◌++◌, flat_map, length, map, get_or, arith}
use Rattle.std.specs.Prelude.{if◌then◌else◌}
use Rattle.std.specs.List.{AllByRecursion, range_with_len}

-- what holds of each of a list
pub all_append : {X : Type 0} (P : X → Type 0) (xs ys : List X) → AllByRecursion P xs → AllByRecursion P ys → AllByRecursion P (xs ++ ys)
all_append P [] ys first second = second
all_append P (x ∷ xs) ys first second = (first.0, all_append P xs ys first.1 second)

pub all_weaker : {X : Type 0} (P Q : X → Type 0) (xs : List X) → ((x : X) → P x → Q x) → AllByRecursion P xs → AllByRecursion Q xs
all_weaker P Q [] gives all = tt
all_weaker P Q (x ∷ xs) gives all = (gives x all.0, all_weaker P Q xs gives all.1)

-- each of a list is so to each later one
abbrev pub Up : {X : Type 0} → (X → X → Type 0) → List X → Type 0
Up R [] = Unit {0}
Up R (x ∷ xs) = AllByRecursion (R x) xs × Up R xs

pub up_append : {X : Type 0} (R : X → X → Type 0) (xs ys : List X) → Up R xs → Up R ys → AllByRecursion (λ x. AllByRecursion (R x) ys) xs → Up R (xs ++ ys)
up_append R [] ys first second across = second
up_append R (x ∷ xs) ys first second across = (all_append (R x) xs ys first.0 across.0, up_append R xs ys first.1 second across.1)

pub up_if : {X : Type 0} (R : X → X → Type 0) (on : Bool) (xs ys : List X) → Up R xs → Up R ys → Up R (if on then xs else ys)
up_if R true xs ys first second = first
up_if R false xs ys first second = second

-- the numbers below n
abbrev pub AreBelow : ℕ → (j k : ℕ) → Type 0
AreBelow n j k = (j < k) × (k < n)

numbers_above : (n count a j : ℕ) → j < a → a + count ≤ n → AllByRecursion (AreBelow n j) (range_with_len a count)
numbers_above n zero a j lt le = tt
numbers_above n (suc count) a j lt le = ((omega arith, omega arith), numbers_above n count (a + 1) j (omega arith) (omega arith))

numbers_from : (n count a : ℕ) → a + count ≤ n → Up (AreBelow n) (range_with_len a count)
numbers_from n zero a le = tt
numbers_from n (suc count) a le = (numbers_above n count (a + 1) a (omega arith) (omega arith), numbers_from n count (a + 1) (omega arith))

pub numbers_up : (n : ℕ) → Up (AreBelow n) (range_with_len 0 n)
numbers_up n = numbers_from n n 0 (omega arith)

-- a walk over such a list gives one, where what is given keeps the order
module _ {X Y : Type 0} (R : X → X → Type 0) (S : Y → Y → Type 0) (P : X → Y → Type 0)
    (apart : (x z : X) (y w : Y) → R x z → P x y → P z w → S y w) (give : X → List Y) (each : (x : X) → AllByRecursion (P x) (give x)) where
  later_ones : (x : X) (xs : List X) (y : Y) → AllByRecursion (R x) xs → P x y → AllByRecursion (S y) (flat_map give xs)
  later_ones x [] y up here = tt
  later_ones x (z ∷ xs) y up here =
      all_append (S y) (give z) (flat_map give xs) (all_weaker (P z) (S y) (give z) (λ w is. apart x z y w up.0 here is) (each z)) (later_ones x xs y up.1 here)

  across : (x : X) (xs : List X) → AllByRecursion (R x) xs → AllByRecursion (λ y. AllByRecursion (S y) (flat_map give xs)) (give x)
  across x xs up = all_weaker (P x) (λ y. AllByRecursion (S y) (flat_map give xs)) (give x) (λ y here. later_ones x xs y up here) (each x)

  pub up_walk : (own : (x : X) → Up S (give x)) → (xs : List X) → Up R xs → Up S (flat_map give xs)
  up_walk own [] up = tt
  up_walk own (x ∷ xs) up = up_append S (give x) (flat_map give xs) (own x) (up_walk own xs up.1) (across x xs up.0)

-- the same over numbers
pub number_walk : {Y : Type 0} (n : ℕ) (S : Y → Y → Type 0) (P : ℕ → Y → Type 0) → ((j k : ℕ) (y w : Y) → AreBelow n j k → P j y → P k w → S y w)
    → (give : ℕ → List Y) → ((k : ℕ) → AllByRecursion (P k) (give k)) → ((k : ℕ) → Up S (give k)) → Up S (flat_map give (range_with_len 0 n))
number_walk n S P apart give each own = up_walk (AreBelow n) S P apart give each own (range_with_len 0 n) (numbers_up n)

-- one, or none
pub one_all : {X : Type 0} (P : X → Type 0) (on : Bool) (x : X) → P x → AllByRecursion P (if on then x ∷ [] else [])
one_all P true x here = (here, tt)
one_all P false x here = tt

pub one_up : {X : Type 0} (R : X → X → Type 0) (on : Bool) (x : X) → Up R (if on then x ∷ [] else [])
one_up R true x = (tt, tt)
one_up R false x = tt

-- the same through a function
pub all_map : {X Y : Type 0} (P : Y → Type 0) (f : X → Y) (xs : List X) → AllByRecursion (λ x. P (f x)) xs → AllByRecursion P (map f xs)
all_map P f [] all = tt
all_map P f (x ∷ xs) all = (all.0, all_map P f xs all.1)

pub up_map : {X Y : Type 0} (R : X → X → Type 0) (S : Y → Y → Type 0) (f : X → Y) → ((x z : X) → R x z → S (f x) (f z)) → (xs : List X) → Up R xs → Up S (map f xs)
up_map R S f keeps [] up = tt
up_map R S f keeps (x ∷ xs) up = (all_map (S (f x)) f xs (all_weaker (R x) (λ z. S (f x) (f z)) xs (λ z is. keeps x z is) up.0), up_map R S f keeps xs up.1)

read_later : {X : Type 0} (R : X → Type 0) (xs : List X) (k : ℕ) (d : X) → AllByRecursion R xs → k < length xs → R (get_or xs k d)
read_later R [] k d all lt = absurd (omega arith)
read_later R (x ∷ xs) zero d all lt = all.0
read_later R (x ∷ xs) (suc k) d all lt = read_later R xs k d all.1 (omega arith)

pub read_up : {X : Type 0} (R : X → X → Type 0) (xs : List X) (j k : ℕ) (d : X) → Up R xs → j < k → k < length xs → R (get_or xs j d) (get_or xs k d)
read_up R [] j k d up lt within = absurd (omega arith)
read_up R (x ∷ xs) zero zero d up lt within = absurd (omega arith)
read_up R (x ∷ xs) zero (suc k) d up lt within = read_later (R x) xs k d up.0 (omega arith)
read_up R (x ∷ xs) (suc j) zero d up lt within = absurd (omega arith)
read_up R (x ∷ xs) (suc j) (suc k) d up lt within = read_up R xs j k d up.1 (omega arith) (omega arith)
