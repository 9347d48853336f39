use Rattle.std.proofs.Common.{ℕ, List, length, subst}
use Rattle.icf_part.specs.PlaceTables.{IsPlaceTable}
use Rattle.icf_part.proofs.TablePlaces.{table_own}
use Rattle.icf_part.proofs.place_table.Places.of.Goals as goal

pub invariant_of-result : goal.invariant_of-result
invariant_of-result c =
    let P : List ℕ → Type 0 = λ l. IsPlaceTable c.width_of-width.result l (length l) c.in_ok-table.table.items in
    table_own c.width_of-width.result c.args.sections.items (length c.args.sections.items) c.in_ok-table.table.items (subst P c.as_slice-2.ensures.value c.in_ok-table.ensures)
