use Rattle.std.proofs.Common.{◌≡◌, map}
use Rattle.std.specs.List.{range_with_len}
use Rattle.lk_tables.specs.Checks.{passes, from_on}
use Rattle.lk_tables.specs.Heads.{all_symbol_checks}
use Rattle.lk_tables.specs.Symbols.{symbol_of, symbol_checks, symbol_count, strings_from, strings_size}
use Rattle.elf_read.specs.Names.{IsLast}
use Rattle.elf_read.proofs.symbols.read_entries.Given as goal

-- what is left of the checks passes as all do, and the symbols so far are read
abbrev pub invariant-loop-index : goal.invariant-loop-index
invariant-loop-index l = record {
  so_far : passes (from_on (symbol_checks l.table.bytes.now) l.index (symbol_count l.table.bytes.now)) ≡ passes (all_symbol_checks l.table.bytes.now);
  items : l.symbols.items ≡ map (symbol_of l.table.bytes.now) (range_with_len 0 l.index);
  last_is : IsLast l.table.bytes.now (strings_from l.table.bytes.now) (strings_size l.table.bytes.now) l.last;
}
