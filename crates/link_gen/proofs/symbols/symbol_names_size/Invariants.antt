use Rattle.std.proofs.Common.{◌≡◌, ◌≤◌, ◌+◌, ◌*◌, length, map, drop, flat_map}
use Rattle.elf_fields.specs.Symbols.{zero_ended}
use Rattle.link_gen.specs.Contents.{symbol_names, symbol_view}
use Rattle.link_gen.proofs.symbols.symbol_names_size.Given as goal

abbrev pub invariant-loop-symbol : goal.invariant-loop-symbol
invariant-loop-symbol l =
    (l.size + length (flat_map zero_ended (map (λ s. s.name) (map symbol_view (drop l.symbol-index l.symbols))))
    ≡ length (symbol_names (map symbol_view l.symbols)))
    × (l.size ≤ 1 + 12 * l.symbol-index)
