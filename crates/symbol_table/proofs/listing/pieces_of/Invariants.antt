use Rattle.std.proofs.Common.{◌≡◌, length}
use Rattle.symbol_table.proofs.listing.pieces_of.Given as goal

abbrev pub invariant-loop-file : goal.invariant-loop-file
invariant-loop-file l = length l.counts.items ≡ l.file-index
