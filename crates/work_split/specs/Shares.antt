-- How workers share a run of numbers: each does those of its piece, and what they give is joined in order.
use Rattle.std.specs.Prelude.{◌≡◌, ◌⊎◌, ℕ, ◌+◌, ◌-◌, Result, Ok, Err, IfOk, List, [], ◌∷◌, ◌++◌, flat_map}
use Rattle.std.specs.List.{range_with_len}
use Rattle.std.specs.Global.{Vec}
use Rattle.std.specs.declared.ops.Range.{Range}
use Rattle.lk_base.specs.declared.defects.Defect.{Defect}
use Rattle.lk_base.specs.declared.defects.LinkStop.{LinkStop}
use Rattle.lk_base.specs.declared.defects.LinkStop.TheVariants as stops
use Rattle.lk_base.specs.Firsts.{Goes}

-- the list has one element for each number from `start` up to `end`, in order
abbrev pub EachFrom : {X : Type 0} → (ℕ → X → Type 0) → (start end : ℕ) → List X → Type 0
EachFrom Is start end [] = start ≡ end
EachFrom Is start end (x ∷ xs) = Is start x × EachFrom Is (start + 1) end xs

-- what is given for the numbers from one up to another: one element for each if none has a defect; else the first
-- defect, or out of memory
pub record IsShare {X : Type 0} (defects : ℕ → List Defect) (Is : ℕ → X → Type 0) (start end : ℕ) (r : Result (Vec X) LinkStop) : Type 0 where
  pub goes : Goes r (flat_map defects (range_with_len start (end - start)))
  pub each : IfOk r (λ list. EachFrom Is start end list.items)

-- a list before what later shares have, if none of these has stopped
abbrev pub with_prefix : {X : Type 0} → List X → Result (List X) LinkStop → Result (List X) LinkStop
with_prefix prefix (Ok rest) = Ok (prefix ++ rest)
with_prefix prefix (Err stop) = Err stop

-- all that is in the shares, in order; the first stop if one has stopped
unfoldable pub joined : {X : Type 0} → List (Result (Vec X) LinkStop) → Result (List X) LinkStop
joined [] = Ok []
joined (Ok list ∷ shares) = with_prefix list.items (joined shares)
joined (Err stop ∷ shares) = Err stop

-- that, or out of memory
abbrev pub IsJoined : {X : Type 0} → Result (List X) LinkStop → Result (Vec X) LinkStop → Type 0
IsJoined whole (Ok list) = whole ≡ Ok list.items
IsJoined whole (Err (stops.Defect first)) = whole ≡ Err (stops.Defect first)
IsJoined whole (Err stops.Memory) = Unit {0}

-- the shares are one for each piece, each as its task may give it
abbrev pub AreGivenBy : {X : Type 0} → (Range ℕ → Result (Vec X) LinkStop → Type 0) → List (Range ℕ) → List (Result (Vec X) LinkStop) → Type 0
AreGivenBy Gives [] shares = shares ≡ []
AreGivenBy Gives (p ∷ ps) [] = ⊥
AreGivenBy Gives (p ∷ ps) (share ∷ shares) = Gives p share × AreGivenBy Gives ps shares

-- what the tasks of the pieces gave, joined; or out of memory
abbrev pub IsJoinedFrom : {X : Type 0} → (Range ℕ → Result (Vec X) LinkStop → Type 0) → List (Range ℕ) → Result (Vec X) LinkStop → Type 0
IsJoinedFrom {X} Gives pieces r =
    (r ≡ Err stops.Memory) ⊎ ((shares : List (Result (Vec X) LinkStop)) × AreGivenBy Gives pieces shares × IsJoined (joined shares) r)
