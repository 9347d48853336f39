-- Where what follows the sections stands.
use Rattle.std.proofs.Common.{◌≡◌, ℕ, ◌+◌, ◌-◌, ◌*◌, ◌<◌, ◌≤◌, ◌^◌, Option, List, length, ap, ◌∙◌, arith}
use Rattle.lk_base.specs.Arithmetic.{up}
use Rattle.lk_base.specs.declared.abi.TheConstants.{IMAGE_BASE}
use Rattle.link_sections.specs.LaidOut.{LaidOut, OutputSection}
use Rattle.elf_out.specs.declared.ends.Ends.{Ends}
use Rattle.elf_out.specs.Ends.{AreEnds}
use Rattle.elf_out.specs.Executable.{after_tables, file_length, table_count}
use Rattle.elf_out.specs.Headers.{section_names}
use Rattle.elf_out.specs.Symbols.{SymbolTables}

-- the least multiple of 8 that is not below
up_most : (x : ℕ) → up x 8 < x + 8
unfolding up
up_most x = omega arith

up_least : (x : ℕ) → x ≤ up x 8
unfolding up
up_least x = omega arith

pub ends_are : (laid : LaidOut) (tables : Option SymbolTables) (outputs : List OutputSection) (last symbols_at names_at size table_at count : ℕ) (ends : Ends)
    → outputs ≡ laid.outputs → last ≡ laid.bounds.file_end - IMAGE_BASE → last < 2 ^ 31 → symbols_at ≡ up last 8
    → names_at ≡ after_tables last tables → names_at < 2 ^ 61 → size ≡ length (section_names outputs tables) → size < 2 ^ 62 → table_at ≡ up (names_at + size) 8
    → count ≡ length outputs + table_count tables + 2 → length outputs < 2 ^ 16 → table_count tables ≤ 2
    → ends.symbols_at ≡ symbols_at → ends.names_at ≡ names_at → ends.names_size ≡ size → ends.table_at ≡ table_at → ends.end ≡ table_at + 64 * count
    → AreEnds laid tables ends
unfolding file_length
ends_are laid tables outputs last symbols_at names_at size table_at count ends e_outputs e_last low e_symbols e_names names_low e_size size_low e_table e_count few most f_symbols f_names f_size f_table f_end =
    let symbols : ends.symbols_at ≡ up (laid.bounds.file_end - IMAGE_BASE) 8 = f_symbols ∙ e_symbols ∙ ap (λ n. up n 8) e_last in
    let names : ends.names_at ≡ after_tables (laid.bounds.file_end - IMAGE_BASE) tables = f_names ∙ e_names ∙ ap (λ n. after_tables n tables) e_last in
    let long : ends.names_size ≡ length (section_names laid.outputs tables) = f_size ∙ e_size ∙ ap (λ os. length (section_names os tables)) e_outputs in
    let table : ends.table_at ≡ up (ends.names_at + ends.names_size) 8 = f_table ∙ e_table ∙ ap (λ n. up n 8) (omega (arith, f_names, f_size)) in
    let over = up_least (names_at + size) in
    let under = up_most (names_at + size) in
    let near = up_most last in
    record {
      symbols_at = symbols;
      names_at = names;
      names_size = long;
      table_at = table ∙ ap (λ n. up n 8) (ap (λ n. n + ends.names_size) names ∙ ap (λ n. after_tables (laid.bounds.file_end - IMAGE_BASE) tables + n) long);
      end = f_end ∙ ap (λ n. table_at + 64 * n) (e_count ∙ ap (λ os. length os + table_count tables + 2) e_outputs)
          ∙ ap (λ n. n + 64 * (length laid.outputs + table_count tables + 2)) (e_table ∙ ap (λ n. up n 8) (ap (λ n. n + size) (e_names ∙ ap (λ n. after_tables n tables) e_last)
          ∙ ap (λ n. after_tables (laid.bounds.file_end - IMAGE_BASE) tables + n) (e_size ∙ ap (λ os. length (section_names os tables)) e_outputs)));
      symbols_small = omega (arith, f_symbols, e_symbols, near, low);
      names_small = omega (arith, f_size, size_low);
      after_names = omega (arith, f_names, f_size, f_table, e_table, over);
      after_table = omega (arith, f_table, f_end);
      small = omega (arith, f_end, e_table, under, names_low, size_low, e_count, few, most);
    }
