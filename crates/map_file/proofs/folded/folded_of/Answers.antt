use Rattle.std.proofs.Common.{List, length, map, ap, subst, arith, rules}
use Rattle.link_sections.specs.declared.layouts.OutputSection.{OutputSection as HeldSection}
use Rattle.link_sections.specs.LaidOut.{layout_view, output_view, with_contents}
use Rattle.symbol_table.specs.Noted.{AreNoted, noted}
use Rattle.symbol_table.proofs.OutputPlaces.{few_outputs}
use Rattle.map_file.proofs.FoldedSteps.{more_folded, none_folded}
use Rattle.map_file.proofs.folded.folded_of.Goals as goal

pub of-requires : goal.of-requires
of-requires c = omega (arith, ap length c.as_slice.ensures.value, few_outputs c.args.view.now)

pub loop-section-init : goal.loop-section-init
loop-section-init c = none_folded c.args.view.now c.len.result _ c.in_ok-lists.ensures (search rules)

pub push_if_folded-requires-clause-noted : goal.push_if_folded-requires-clause-noted
unfolding layout_view with_contents
push_if_folded-requires-clause-noted c =
    let P : List HeldSection → Type 0 = λ list. AreNoted 1 (map output_view list) (noted c.in_ok-outputs.outputs.known) in
    subst P c.as_slice.ensures.value c.in_ok-outputs.ensures

pub loop-section-preserved : goal.loop-section-preserved
loop-section-preserved c =
    more_folded c.args.view.now c.loop-section.section c.loop-section.lists.items c.push_if_folded.new.lists.items c.loop-section.invariant
    c.in_ok-push_if_folded.ensures.count c.in_ok-push_if_folded.ensures.each
