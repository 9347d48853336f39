-- Defects of no file, and counts above their limits.
use Rattle.std.specs.Prelude.{ℕ, nat_lt, if◌then◌else◌, List, [], ◌∷◌}
use Rattle.lk_base.specs.declared.defects.Defect.{Defect}
use Rattle.lk_base.specs.declared.kinds.DefectKind.{DefectKind}
use Rattle.lk_base.specs.declared.kinds.TheConstants.{LIMIT}
use Rattle.lk_base.specs.declared.numbers.TheConstants.{NO_FILE}

-- a defect of no file
abbrev pub linkwide : DefectKind → (place other : ℕ) → Defect
linkwide kind place other = record { kind = kind; file = NO_FILE; section = 0; place = place; symbol = 0; other = other }

-- a count that is above its limit: the place is the count
abbrev pub count_defect : ℕ → Defect
count_defect count = linkwide LIMIT count 0

abbrev pub count_defects : (limit count : ℕ) → List Defect
count_defects limit count = if nat_lt limit count then count_defect count ∷ [] else []
