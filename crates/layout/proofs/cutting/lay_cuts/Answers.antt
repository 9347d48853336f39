use Rattle.std.proofs.Common.{◌≡◌, ◌+◌, ◌-◌, ◌≤◌, ◌∙◌, ap}
use Rattle.link_sections.specs.Cuts.{kept_before}
use Rattle.link_sections.specs.CutsView.{cut_views}
use Rattle.layout.proofs.CutSums.{no_cut}
use Rattle.layout.proofs.CutsPassed.{all_held, here_from, went_first, went_next, went_size}
use Rattle.layout.proofs.cutting.lay_cuts.Goals as goal

pub loop-cut-init : goal.loop-cut-init
loop-cut-init c = went_first c.args.start c.args.size c.args.cuts.now _ _ c.requires.cuts.apart c.clear.ensures.items c.new.ensures.items

pub lay_cut-requires-clause-so_far : goal.lay_cut-requires-clause-so_far
lay_cut-requires-clause-so_far c = here_from c.args.start c.args.size c.args.cuts.now _ _ c.loop-cut.cut-index _ _ no_cut c.loop-cut-test.true c.loop-cut.invariant

pub lay_cut-requires-clause-kept : goal.lay_cut-requires-clause-kept
lay_cut-requires-clause-kept c =
    all_held (λ x. x.kept ≤ x.whole) c.args.cuts.now c.requires.cuts.apart.kept c.loop-cut.cut-index no_cut c.loop-cut-test.true

pub loop-cut-preserved : goal.loop-cut-preserved
loop-cut-preserved c =
    went_next c.args.start c.args.size c.args.cuts.now _ _ _ _ c.loop-cut.cut-index _ _ _ _ no_cut c.loop-cut-test.true
    (c.requires.within c.loop-cut.cut-index no_cut c.loop-cut-test.true) c.loop-cut.invariant c.in_ok-lay_cut.ensures.laid
    c.in_ok-lay_cut.ensures.passed

pub returns-clause-size : goal.returns-clause-size
returns-clause-size c =
    let reaching = c.loop-cut.passed.reaching.items in
    let all = went_size c.args.start c.args.size c.args.cuts.now c.loop-cut.laid.items reaching c.loop-cut.cut-index _ _ c.loop-cut-test.false c.loop-cut.invariant in
    let before : c.kept_before.result ≡ kept_before (cut_views reaching) c.args.size =
    c.kept_before.ensures.value ∙ ap (λ l. kept_before (cut_views l) c.args.size) c.deref.ensures.value in
    ap (λ k. c.args.size + (c.loop-cut.passed.kept + k) - c.loop-cut.passed.whole) before ∙ all.1.0
