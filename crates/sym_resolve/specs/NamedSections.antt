-- The sections that may be kept, by those of their names that are identifiers of C.
use Rattle.std.specs.Prelude.{◌≡◌, ℕ, ◌&&◌, Bool, true, Option, Some, None, if◌then◌else◌, List}
use Rattle.std.specs.Borrow.{Bor}
use Rattle.std.specs.Str.{bytes_eq}
use Rattle.lk_tables.specs.Binding.{Bindings}
use Rattle.lk_tables.specs.Files.{File}
use Rattle.lk_tables.specs.InputSections.{input_of, may_stay}
use Rattle.lk_tables.specs.LinkerSymbols.{first_named, is_c_identifier, is_named}

-- lent names are told apart by their bytes
abbrev pub eq_names : Bor (List ℕ) → Bor (List ℕ) → Bool
eq_names a b = bytes_eq a.now b.now

module _ (files : List File) (b : Bindings) where
  -- the name of section k of file f, if the section may be kept and the name is an identifier of C
  abbrev pub name_if : (f k : ℕ) → Option (List ℕ)
  name_if f k = if may_stay files b f k && is_c_identifier (input_of files b f k).name then Some (input_of files b f k).name else None

  -- section n, if it may be kept and has this name
  abbrev pub named_if : (text : List ℕ) → (n : ℕ) → Option ℕ
  named_if text n = if is_named files b text n then Some n else None

  -- a look-up finds the first section of each such name
  abbrev pub IsIndex : (Bor (List ℕ) → Option ℕ) → Type 0
  IsIndex look = (q : Bor (List ℕ)) → is_c_identifier q.now ≡ true → look q ≡ first_named files b q.now
