-- What the tables of this crate stand for: symbols, and sections with what stands in each.
use Rattle.std.specs.Prelude.{ℕ, ◌^◌, ◌<◌, ◌≤◌, List, ◌∷◌, length, map, codes, decimal}
use Rattle.lk_base.specs.declared.abi.TheConstants.{R_RISCV_64}
use Rattle.link_gen.specs.declared.contents.Object.{Object}
use Rattle.link_gen.specs.declared.sections.Contents.{Contents}
use Rattle.link_gen.specs.declared.sections.Contents.TheVariants.{Calls, CallRelocations, Number, Ret, MergedString, Zeros, Pointer, SymbolTable, SymbolNames, SectionNames}
use Rattle.link_gen.specs.declared.sections.Section.{Section as Row}
use Rattle.link_gen.specs.declared.symbols.Name.{Name}
use Rattle.link_gen.specs.declared.symbols.Name.TheVariants.{Start, Numbered}
use Rattle.link_gen.specs.declared.symbols.Symbol.{Symbol as Line}
use Rattle.link_gen.specs.Elf.{Section, Symbol, relocation, strings, zeros}
use Rattle.link_gen.specs.Generated.{ret, f_code, f_relocations, g_code, symbol_table, merged_string}

abbrev pub name_bytes : Name → List ℕ
name_bytes Start = codes "_start"
name_bytes (Numbered letter number) = letter ∷ decimal number

abbrev pub symbol_view : Line → Symbol
symbol_view s = record { name = name_bytes s.name; info = s.info; section = s.section; size = s.size }

abbrev pub symbols_in : Object → List Symbol
symbols_in o = map symbol_view o.symbols.now

abbrev pub symbol_names : List Symbol → List ℕ
symbol_names named = strings (map (λ s. s.name) named)

abbrev pub row_name : Row → List ℕ
row_name r = r.name.now

abbrev pub section_names : List Row → List ℕ
section_names rows = strings (map row_name rows)

-- few calls, symbols and sections, with short names: no size comes near a limit
pub record IsSmall (o : Object) : Type 0 where
  pub calls : o.calls ≤ 3
  pub symbols : length o.symbols.now ≤ 6
  pub sections : length o.sections.now ≤ 10
  pub names : length (section_names o.sections.now) < 2 ^ 16

-- what stands in a section of an object
abbrev pub contents_of : Contents → Object → List ℕ
contents_of Calls o = f_code o.calls
contents_of CallRelocations o = f_relocations o.number o.calls
contents_of Number o = g_code o.number
contents_of Ret o = ret
contents_of MergedString o = merged_string o.number
contents_of Zeros o = zeros 8
contents_of Pointer o = relocation 0 R_RISCV_64 1
contents_of SymbolTable o = symbol_table (symbols_in o)
contents_of SymbolNames o = symbol_names (symbols_in o)
contents_of SectionNames o = section_names o.sections.now

abbrev pub section_view : Object → Row → Section
section_view o r = record {
  name = r.name.now;
  sh_type = r.sh_type;
  flags = r.flags;
  contents = contents_of r.contents o;
  link = r.link;
  info = r.info;
  align = r.align;
  entry_size = r.entry_size;
}

-- the sections of an object
abbrev pub sections_in : Object → List Section
sections_in o = map (section_view o) o.sections.now
