-- The name that was found last in a string table.
use Rattle.std.specs.Prelude.{◌≡◌, ℕ, ◌-◌, ◌≤◌, List, Some}
use Rattle.lk_tables.specs.Names.{name_len}
use Rattle.elf_read.specs.declared.names.LastName.{LastName}

-- the names that start in the last one have its end
abbrev pub IsLast : List ℕ → (from size : ℕ) → LastName → Type 0
IsLast b from size last = (at : ℕ) → last.from ≤ at → at ≤ last.end → name_len b from size at ≡ Some (last.end - at)
