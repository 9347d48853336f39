use Rattle.std.proofs.Common.{◌≡◌, drop}
use Rattle.lk_tables.specs.Ranks.{no_rank}
use Rattle.lk_tables.specs.TablesView.{files_of}
use Rattle.sym_resolve.specs.NamedOffers.{least_named}
use Rattle.sym_resolve.proofs.entry.least_named.Given as goal

abbrev pub invariant-loop-offer : goal.invariant-loop-offer
invariant-loop-offer l = least_named (files_of l.tables) l.name l.least (drop l.offer-index l.offers) ≡ least_named (files_of l.tables) l.name no_rank l.offers
