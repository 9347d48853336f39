use Rattle.std.proofs.Common.{◌≡◌, drop}
use Rattle.sym_resolve.specs.StrongPairs.{no_clash, least_clash}
use Rattle.sym_resolve.proofs.duplicates.least_clash.Given as goal

abbrev pub invariant-loop-offer : goal.invariant-loop-offer
invariant-loop-offer l = least_clash l.least l.best (drop l.offer-index l.offers) ≡ least_clash l.least no_clash l.offers
