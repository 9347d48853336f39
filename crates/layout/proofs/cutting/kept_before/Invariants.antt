use Rattle.std.proofs.Common.{◌≡◌, ◌+◌, drop}
use Rattle.link_sections.specs.Cuts.{kept_before}
use Rattle.link_sections.specs.CutsView.{cut_views}
use Rattle.layout.proofs.cutting.kept_before.Given as goal

abbrev pub invariant-loop-cut : goal.invariant-loop-cut
invariant-loop-cut l = l.kept + kept_before (cut_views (drop l.cut-index l.cuts)) l.offset ≡ kept_before (cut_views l.cuts) l.offset
