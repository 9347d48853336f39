use Rattle.symbol_addresses.specs.Prevailing.{own_addresses}
use Rattle.symbol_addresses.specs.Sources.{addresses_of}
use Rattle.symbol_addresses.proofs.TakenAddresses.{AreTaken}
use Rattle.symbol_addresses.proofs.prevailing.take_addresses.Given as goal

abbrev pub invariant-loop-symbol : goal.invariant-loop-symbol
invariant-loop-symbol l = AreTaken (addresses_of l.link) (own_addresses l.link) l.addresses l.symbol
