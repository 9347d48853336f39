use Rattle.icf_part.specs.PlaceTables.{IsPlaceTable}
use Rattle.icf_part.proofs.place_table.table_of.Given as goal

abbrev pub invariant-loop-k : goal.invariant-loop-k
invariant-loop-k l = IsPlaceTable l.fn.width l.sections l.k l.table.items
