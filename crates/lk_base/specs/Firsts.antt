-- The first of a list of defects.
use Rattle.std.specs.Prelude.{◌≡◌, Option, Some, None, Result, Ok, Err, List, [], ◌∷◌}
use Rattle.lk_base.specs.declared.defects.Defect.{Defect}
use Rattle.lk_base.specs.declared.defects.LinkStop.{LinkStop}
use Rattle.lk_base.specs.declared.defects.LinkStop.TheVariants as stops

-- the defect is the first of the list
abbrev pub BeginsWith : List Defect → Defect → Type 0
BeginsWith defects first = (later : List Defect) × (defects ≡ first ∷ later)

-- the first of the list, or none if it is empty
abbrev pub IsFirst : List Defect → Option Defect → Type 0
IsFirst defects None = defects ≡ []
IsFirst defects (Some first) = BeginsWith defects first

-- a step that goes on exactly if the list is empty, and else stops at its first
abbrev pub Passes : {X : Type 0} → Result X Defect → List Defect → Type 0
Passes (Ok value) defects = defects ≡ []
Passes (Err first) defects = BeginsWith defects first

-- a step stopped at the first of these defects, unless memory ran out
abbrev pub StopsAt : LinkStop → List Defect → Type 0
StopsAt (stops.Defect first) defects = BeginsWith defects first
StopsAt stops.Memory defects = Unit {0}

abbrev pub Goes : {X : Type 0} → Result X LinkStop → List Defect → Type 0
Goes (Ok value) defects = defects ≡ []
Goes (Err stop) defects = StopsAt stop defects
