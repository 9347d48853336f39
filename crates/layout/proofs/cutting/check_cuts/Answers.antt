use Rattle.std.proofs.Common.{◌∙◌, sym}
use Rattle.layout.proofs.CutSums.{no_cut}
use Rattle.layout.proofs.ShortCuts.{short_found}
use Rattle.layout.proofs.cutting.check_cuts.Goals as goal

pub returns-then-is_short : goal.returns-then-is_short
returns-then-is_short c =
    short_found c.args.place c.args.laid.now c.loop-cut.cut-index no_cut _ c.loop-cut-test.true (sym c.is_short.ensures ∙ c.if-is_short.true) c.loop-cut.invariant
