-- How a file of the format begins (System V gABI, "ELF Identification").
use Rattle.std.specs.Prelude.{ℕ, nat_eq, Bool, List, [], ◌∷◌}
use Rattle.std.specs.List.{starts_with}

-- a file that begins as an ELF file does: EI_MAG0 to EI_MAG3
unfoldable pub is_elf : List ℕ → Bool
is_elf b = starts_with nat_eq b (0x7f ∷ 0x45 ∷ 0x4c ∷ 0x46 ∷ [])
