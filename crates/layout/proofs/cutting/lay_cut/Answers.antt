use Rattle.std.proofs.Common.{◌≡◌, [], ◌∷◌, ◌++◌, ◌+◌, ◌-◌, if◌then◌else◌, ◌∙◌, ap, refl}
use Rattle.link_sections.specs.Cuts.{kept_before}
use Rattle.link_sections.specs.CutsView.{cut_views}
use Rattle.layout.specs.CutsSoFar.{IsPassed}
use Rattle.layout.specs.Cutting.{needed}
use Rattle.layout.proofs.CutsPassed.{passed_push, placed_is, settled}
use Rattle.layout.proofs.cutting.lay_cut.Goals as goal

pub returns-clause-laid : goal.returns-clause-laid
returns-clause-laid c =
    let s = c.settle.ensures in
    let reaching = cut_views c.settle.new.passed.reaching.items in
    let now : IsPassed (cut_views c.args.laid.now.items) c.args.cut.now.at c.settle.new.passed.whole c.settle.new.passed.kept reaching =
    settled (cut_views c.args.laid.now.items) (cut_views c.args.passed.now.reaching.items) reaching c.args.cut.now.at _ _ _ _ c.requires.so_far s.whole s.kepts s.all in
    let before : c.kept_before.result ≡ kept_before reaching c.args.cut.now.at =
    c.kept_before.ensures.value ∙ ap (λ l. kept_before (cut_views l) c.args.cut.now.at) c.deref.ensures.value in
    let stays = c.kept_of-kept.ensures.value
    ∙ ap (λ k. if c.args.cut.now.is_align then needed (c.args.start + (c.args.cut.now.at + (c.settle.new.passed.kept + k) - c.settle.new.passed.whole)) c.args.cut.now.whole else c.args.cut.now.kept) before in
    c.in_ok-push.ensures.items
    ∙ ap (λ k. c.args.laid.now.items ++ record {
      at = c.args.cut.now.at;
      whole = c.args.cut.now.whole;
      kept = c.kept_of-kept.result;
      is_align = c.args.cut.now.is_align;
      new_at = c.args.cut.now.at + (c.settle.new.passed.kept + k) - c.settle.new.passed.whole;
    } ∷ []) before
    ∙ ap (λ x. c.args.laid.now.items ++ x ∷ [])
    (placed_is c.args.start c.args.laid.now.items c.args.cut.now reaching c.settle.new.passed.whole c.settle.new.passed.kept c.kept_of-kept.result now stays)

pub returns-clause-passed : goal.returns-clause-passed
returns-clause-passed c =
    let s = c.settle.ensures in
    let reaching = cut_views c.settle.new.passed.reaching.items in
    let now : IsPassed (cut_views c.args.laid.now.items) c.args.cut.now.at c.settle.new.passed.whole c.settle.new.passed.kept reaching =
    settled (cut_views c.args.laid.now.items) (cut_views c.args.passed.now.reaching.items) reaching c.args.cut.now.at _ _ _ _ c.requires.so_far s.whole s.kepts s.all in
    passed_push c.args.start c.args.laid.now.items c.push.new.self.items c.args.cut.now _ reaching (cut_views c.pass.new.passed.reaching.items) _ _ _ _ now refl refl
    c.in_ok-push.ensures.items c.kept_of-kept.ensures.most c.in_ok-pass.ensures.whole c.in_ok-pass.ensures.kepts c.in_ok-pass.ensures.all
