use Rattle.link_sections.specs.Links.{link_files}
use Rattle.symbol_addresses.specs.Prevailing.{own_address}
use Rattle.symbol_addresses.proofs.NumberRuns.{AreBefore}
use Rattle.symbol_addresses.proofs.addresses.addresses_in.Given as goal

abbrev pub invariant-loop-file : goal.invariant-loop-file
invariant-loop-file l = AreBefore (link_files l.sources.link) (own_address l.sources.link) 0 l.fn.piece.start l.fn.piece.end l.file l.found.items
