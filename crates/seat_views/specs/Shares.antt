-- A seat's share of its table. The shares of all live seats are the whole table, so that no seat comes but by a split.
use Rattle.std.specs.Prelude.{◌≡◌, ℕ, suc, ◌+◌, ◌-◌, ◌^◌, ◌<◌, ◌≤◌, Bool, List, [], ◌∷◌, length, All}
use Rattle.seat_views.specs.Views.{EachView, total_of}

-- a share of which the first part was halved
abbrev pub halved : List ℕ → List ℕ
halved [] = []
halved (k ∷ parts) = suc k ∷ parts

-- the other half of that part
abbrev pub half_of : List ℕ → List ℕ
half_of [] = []
half_of (k ∷ parts) = suc k ∷ []

-- how many parts a share has, if the whole table is 2 ^ depth of them
abbrev pub parts_in : (depth : ℕ) → List ℕ → ℕ
parts_in depth [] = 0
parts_in depth (k ∷ parts) = 2 ^ (depth - k) + parts_in depth parts

-- a share has a part, and none was halved more often than this
pub record IsShare (depth : ℕ) (share : List ℕ) : Type 0 where
  pub some : 0 < length share
  pub most : All (λ k. k ≤ depth) share

-- Each live view has a share, and all of them are the whole table: a seat comes only from another, of whose share it has a half
pub record AreWhole {V : Type 0} (live : V → Bool) (share : V → List ℕ) (views : List V) : Type 0 where
  pub depth : ℕ
  pub each : EachView live (λ v. IsShare depth (share v)) views
  pub whole : total_of live (λ v. parts_in depth (share v)) views ≡ 2 ^ depth
