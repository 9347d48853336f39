use Rattle.std.proofs.Common.{◌≡◌, length}
use Rattle.name_numbers.proofs.listing.pieces_of.Given as goal

abbrev pub invariant-loop-f : goal.invariant-loop-f
invariant-loop-f l = length l.counts.items ≡ l.f
