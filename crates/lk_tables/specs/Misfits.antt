-- What is wrong with the value of a relocation (RISC-V ELF psABI, "Relocations").
use Rattle.std.specs.Prelude.{ℕ, ℤ, Option, Some, None, List, [], ◌∷◌}
use Rattle.lk_base.specs.Arithmetic.{bits_of}
use Rattle.lk_base.specs.Reaches.{Reach, misfit_of}
use Rattle.lk_base.specs.declared.defects.Defect.{Defect}
use Rattle.lk_base.specs.declared.defects.Misfit.{Misfit}
use Rattle.lk_base.specs.declared.defects.Misfit.TheVariants.{Odd, Range}
use Rattle.lk_base.specs.declared.kinds.TheConstants as kinds
use Rattle.lk_tables.specs.declared.objects.Reloc.{Reloc}
use Rattle.lk_tables.specs.declared.section_places.SectionPlace.{SectionPlace}
use Rattle.lk_tables.specs.Walks.{reloc_defect}

-- it is odd, or too far, and its field takes no such value
abbrev pub misfit_defects : SectionPlace → Reloc → ℤ → Option Misfit → List Defect
misfit_defects place r v None = []
misfit_defects place r v (Some Odd) = reloc_defect kinds.ODD place.file place.index r (bits_of v) ∷ []
misfit_defects place r v (Some Range) = reloc_defect kinds.RANGE place.file place.index r (bits_of v) ∷ []

-- a value that its field does not take
abbrev pub value_defects : SectionPlace → Reloc → Reach → Option ℤ → List Defect
value_defects place r reach None = []
value_defects place r reach (Some v) = misfit_defects place r v (misfit_of reach v)
