use Rattle.map_file.specs.Folded.{AreFolded}
use Rattle.map_file.specs.MapView.{lists_view}
use Rattle.map_file.proofs.folded.folded_of.Given as goal

abbrev pub invariant-loop-section : goal.invariant-loop-section
invariant-loop-section l = AreFolded l.view l.section (lists_view l.lists.items)
