use Rattle.std.proofs.Common.{◌-◌, min, arith}
use Rattle.link_sections.specs.CutsView.{cut_views}
use Rattle.layout.proofs.CutSums.{kept_most, room_of_one, no_cut}
use Rattle.layout.proofs.cutting.kept_before.Goals as goal

pub overflow_add-kept : goal.overflow_add-kept
overflow_add-kept c =
    let one = room_of_one (λ x. min (c.args.offset - x.at) x.kept) c.args.cuts.now c.loop-cut.cut-index _ _ no_cut c.loop-cut-test.true c.loop-cut.invariant in
    omega (arith, one, c.min-kept.ensures, c.saturating_sub.ensures, kept_most (cut_views c.args.cuts.now) c.args.offset, c.requires)

pub returns-clause-most : goal.returns-clause-most
returns-clause-most c = omega (arith, c.loop-cut.invariant, kept_most (cut_views c.args.cuts.now) c.args.offset)
