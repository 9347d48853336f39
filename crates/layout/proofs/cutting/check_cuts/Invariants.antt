use Rattle.std.proofs.Common.{◌≡◌, drop}
use Rattle.link_sections.specs.CutsView.{cut_views}
use Rattle.layout.specs.Cutting.{short_defects}
use Rattle.layout.proofs.cutting.check_cuts.Given as goal

abbrev pub invariant-loop-cut : goal.invariant-loop-cut
invariant-loop-cut l = short_defects l.place (cut_views (drop l.cut-index l.laid)) ≡ short_defects l.place (cut_views l.laid)
