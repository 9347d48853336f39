use Rattle.std.proofs.Common.{List, map, length, ap, subst, arith}
use Rattle.link_sections.specs.declared.layouts.OutputSection.{OutputSection as HeldSection}
use Rattle.link_sections.specs.LaidOut.{layout_view, output_view, with_contents}
use Rattle.symbol_table.specs.Noted.{AreNoted, noted}
use Rattle.symbol_table.proofs.OutputPlaces.{few_outputs}
use Rattle.symbol_table.proofs.listing.list_entries.Goals as goal

pub of-requires : goal.of-requires
of-requires g c =
    omega (arith, ap length c.as_slice.ensures.value, few_outputs c.args.view.now)

pub all_entries-requires-clause-noted : goal.all_entries-requires-clause-noted
unfolding layout_view with_contents
all_entries-requires-clause-noted g c κs within =
    let P : List HeldSection → Type 0 = λ list. AreNoted 1 (map output_view list) (noted c.in_ok-outputs.outputs.known) in
    subst P c.as_slice.ensures.value c.in_ok-outputs.ensures
