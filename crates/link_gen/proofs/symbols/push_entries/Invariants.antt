use Rattle.std.proofs.Common.{◌≡◌, ◌≤◌, ◌+◌, ◌*◌, ◌++◌, map, drop}
use Rattle.link_gen.specs.Contents.{symbol_view}
use Rattle.link_gen.specs.Elf.{symbol_entries}
use Rattle.link_gen.proofs.symbols.push_entries.Given as goal

abbrev pub invariant-loop-symbol : goal.invariant-loop-symbol
invariant-loop-symbol l =
    (l.out.items ++ symbol_entries l.name (map symbol_view (drop l.symbol-index l.symbols))
    ≡ l.fn.out.items ++ symbol_entries 1 (map symbol_view l.symbols))
    × (l.name ≤ 1 + 12 * l.symbol-index)
