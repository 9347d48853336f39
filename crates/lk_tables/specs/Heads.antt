-- The head of an object file: its fields at their places, and no broken check (System V gABI, "ELF Header",
-- "Sections", "Symbol Table").
use Rattle.std.specs.Prelude.{◌≡◌, ℕ, Result, List, ◌++◌, map}
use Rattle.std.specs.List.{range_with_len}
use Rattle.lk_base.specs.declared.defects.Flaw.{Flaw}
use Rattle.lk_tables.specs.declared.heads.Section.{Section}
use Rattle.lk_tables.specs.declared.heads.Symbol.{Symbol}
use Rattle.lk_tables.specs.declared.heads.Head.{Head}
use Rattle.lk_tables.specs.Checks.{Check, checked, NoneBroken, from_on}
use Rattle.lk_tables.specs.FileHeader.{header_checks, e_flags, section_count}
use Rattle.lk_tables.specs.Sections.{section_of, section_checks}
use Rattle.lk_tables.specs.Symbols.{symtab_of, symbol_count, symbol_of, symbol_checks}

-- a head, as lists
pub record HeadView : Type 0 where
  pub flags : ℕ
  pub sections : List Section
  pub symtab : ℕ
  pub symbols : List Symbol

abbrev pub head_view : Head → HeadView
head_view head = record { flags = head.flags; sections = head.sections.items; symtab = head.symtab; symbols = head.symbols.items }

abbrev pub sections_of : List ℕ → List Section
sections_of b = map (section_of b) (range_with_len 0 (section_count b))

abbrev pub symbols_of : List ℕ → List Symbol
symbols_of b = map (symbol_of b) (range_with_len 0 (symbol_count b))

-- the fields at their places
unfoldable pub fields_of : List ℕ → HeadView
fields_of b = record { flags = e_flags b; sections = sections_of b; symtab = symtab_of b; symbols = symbols_of b }

-- the checks of the file header, then of each section in order, then of each symbol
abbrev pub all_section_checks : List ℕ → List Check
all_section_checks b = from_on (section_checks b) 0 (section_count b)

abbrev pub all_symbol_checks : List ℕ → List Check
all_symbol_checks b = from_on (symbol_checks b) 0 (symbol_count b)

unfoldable pub head_checks : List ℕ → List Check
head_checks b = header_checks b ++ (all_section_checks b ++ all_symbol_checks b)

-- what is read of a head
unfoldable pub head_of : List ℕ → Result HeadView Flaw
head_of b = checked (head_checks b) (fields_of b)

-- the head is of these bytes
pub record HeadOf (b : List ℕ) (head : HeadView) : Type 0 where
  pub fields : head ≡ fields_of b
  pub sound : NoneBroken (head_checks b)
