use Rattle.std.proofs.Common.{◌≡◌, map}
use Rattle.std.specs.List.{range_with_len}
use Rattle.lk_tables.specs.LinkerSymbols.{edge_of}
use Rattle.link_sections.specs.Addresses.{edge_address}
use Rattle.link_sections.specs.Links.{link_laid}
use Rattle.symbol_addresses.proofs.edges.find_fixed.Given as goal

abbrev pub invariant-loop-number : goal.invariant-loop-number
invariant-loop-number l = l.list.items ≡ map (λ n. edge_address (link_laid l.link) (edge_of n)) (range_with_len 0 l.number)
