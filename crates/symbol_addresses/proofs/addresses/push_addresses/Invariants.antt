use Rattle.std.proofs.Common.{◌≡◌, ◌++◌, ◌-◌, map, min}
use Rattle.std.specs.List.{range_with_len}
use Rattle.symbol_addresses.specs.Prevailing.{own_address}
use Rattle.symbol_addresses.proofs.addresses.push_addresses.Given as goal

abbrev pub invariant-loop-symbol : goal.invariant-loop-symbol
invariant-loop-symbol l =
    let give = own_address l.sources.link l.file in
    let end = min l.fn.symbols.end l.count in
    l.found.items ++ map give (range_with_len l.symbol (end - l.symbol)) ≡ l.fn.found.items ++ map give (range_with_len l.fn.symbols.start (end - l.fn.symbols.start))
