use Rattle.std.proofs.Common.{◌≡◌, ◌*◌, ◌≤◌}
use Rattle.link_sections.specs.CutsView.{cut_views}
use Rattle.relax.specs.Placing.{ArePlaced}
use Rattle.relax.proofs.CutSteps.{cuts_upto}
use Rattle.relax.proofs.unrelaxed.whole_cuts.Given as goal

abbrev pub invariant-loop-k : goal.invariant-loop-k
invariant-loop-k l = record {
  views : cut_views l.cuts.items ≡ cuts_upto (λ _. 8) l.relocs l.k;
  placed : ArePlaced l.cuts.items l.lost;
  few : l.lost ≤ l.k * 18446744073709551615;
}
