use Rattle.std.proofs.Common.{◌≡◌, ◌+◌, ◌-◌, ◌++◌, map}
use Rattle.std.specs.List.{range_with_len}
use Rattle.link_gen.specs.Contents.{symbol_view}
use Rattle.link_gen.specs.Generated.{undefined}
use Rattle.link_gen.proofs.symbols.push_called.Given as goal

abbrev pub invariant-loop-number : goal.invariant-loop-number
invariant-loop-number l =
    map symbol_view l.symbols.items ++ map undefined (range_with_len l.number (l.first + l.count - l.number))
    ≡ map symbol_view l.fn.symbols.items ++ map undefined (range_with_len l.first l.count)
