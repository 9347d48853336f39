-- The symbols of an executable stand in the sections that its symbol table names (System V gABI, "Symbol Table": st_shndx and st_value; "Sections":
-- sh_addr and sh_size).
use Rattle.std.specs.Prelude.{◌≡◌, ℕ, ◌+◌, ◌-◌, ◌<◌, ◌≤◌, Bool, true, false, Option, Some, List, [], ◌∷◌, length}
use Rattle.std.specs.List.{slice_get}
use Rattle.lk_tables.specs.declared.bounds.Bound.TheVariants.{InSection}
use Rattle.lk_tables.specs.Binding.{Bindings}
use Rattle.lk_tables.specs.Files.{File, file_at}
use Rattle.lk_tables.specs.Targets.{bound}
use Rattle.link_sections.specs.Addresses.{symbol_address}
use Rattle.link_sections.specs.InputSections.{input_at}
use Rattle.link_sections.specs.LaidOut.{LaidOut, OutputSection}
use Rattle.link_sections.specs.PoolViews.{is_merged}
use Rattle.symbol_table.specs.declared.symbols.TablePlace.TheVariants.{Output}
use Rattle.symbol_table.specs.SymbolTable.{TableSymbol, entry_of, table_value}

-- the section header of this number is that of an output section; unless it is one of the linker's own unwind records, which have no members, the
-- address lies in it or at its end
pub record StandsIn (laid : LaidOut) (number address : ℕ) : Type 0 where
  pub output : OutputSection
  pub counted : 1 ≤ number
  pub header : slice_get laid.outputs (number - 1) ≡ Some output
  pub from : 0 < output.count → output.address ≤ address
  pub to : 0 < output.count → address ≤ output.address + output.size

-- an entry of the symbol table for a symbol in a section that is not merged, with the number of a section: its address lies in that section, and its
-- value is the address (of a thread-local one what the address is past the start of thread-local storage)
pub record HasItsSection (files : List File) (b : Bindings) (kept : List Bool) (leaders : List (Option ℕ)) (laid : LaidOut) (f i number : ℕ) (t : TableSymbol) : Type 0 where
  pub value : t.value ≡ table_value files b kept leaders laid f i
  pub stands : StandsIn laid number (symbol_address files b leaders laid f i)

-- the section of an entry is that of the header of an output section with members
pub record HasNumber (laid : LaidOut) (t : TableSymbol) : Type 0 where
  pub number : ℕ
  pub output : OutputSection
  pub section : t.section ≡ Output number
  pub header : slice_get laid.outputs (number - 1) ≡ Some output
  pub members : 0 < output.count

-- symbol i of file f, which takes part, stands in section n, which is not merged, and has this entry
pub record IsListed (files : List File) (b : Bindings) (kept : List Bool) (leaders : List (Option ℕ)) (laid : LaidOut) (f i n : ℕ) (t : TableSymbol) : Type 0 where
  pub offset : ℕ
  pub file : f < length files
  pub symbol : i < length (file_at files f).head.symbols
  pub live : (file_at files f).live ≡ true
  pub target : bound files b f i ≡ InSection n offset
  pub apart : is_merged laid.merging.merged n ≡ false
  pub entry : entry_of files b kept leaders laid f i ≡ t ∷ []

-- each such symbol whose entry has the number of a section lies in that section; and if its section has bytes in the input, its entry has such a number
pub record SymbolsStand (files : List File) (b : Bindings) (kept : List Bool) (leaders : List (Option ℕ)) (laid : LaidOut) : Type 0 where
  pub stand : (f i n number : ℕ) (t : TableSymbol) → IsListed files b kept leaders laid f i n t → t.section ≡ Output number → HasItsSection files b kept leaders laid f i number t
  pub named : (f i n : ℕ) (t : TableSymbol) → IsListed files b kept leaders laid f i n t → 0 < (input_at files b n).size → HasNumber laid t
