use Rattle.std.proofs.Common.{◌∙◌, arith, length, subst, sym, List}
use Rattle.lk_base.specs.Firsts.{BeginsWith}
use Rattle.lk_base.specs.declared.defects.Defect.{Defect}
use Rattle.lk_base.proofs.Loops.{found_step, pass_step}
use Rattle.reloc_apply.proofs.TouchingSteps.{from_near, to_last, touching, whole}
use Rattle.reloc_apply.proofs.touching.first_touching.Goals as goal

pub loop-k-init : goal.loop-k-init
loop-k-init c =
    from_near c.args.view.now c.args.source.now c.requires.source c.args.from c.args.len c.first_near-k.result c.first_near-k.ensures.bound (λ k lt. c.first_near-k.ensures.before k lt)

pub returns-in-Some : goal.returns-in-Some
returns-in-Some c =
    let P : List Defect → Type 0 = λ list. BeginsWith list c.in-Some.defect in
    subst P (whole c.args.view.now c.args.source.now c.requires.source c.args.from c.args.len)
    (found_step (touching c.args.view.now c.args.source.now c.requires.source c.args.from c.args.len) c.loop-k.k (length c.args.source.now.relocs.now) _ c.in-Some.defect (omega arith)
    c.loop-k.invariant c.in-Some.ensures)

pub loop-k-preserved : goal.loop-k-preserved
loop-k-preserved c =
    pass_step (touching c.args.view.now c.args.source.now c.requires.source c.args.from c.args.len) c.loop-k.k (length c.args.source.now.relocs.now) _ (omega arith)
    c.loop-k.invariant c.in_default.ensures

pub returns : goal.returns
returns c =
    sym (c.loop-k.invariant ∙ whole c.args.view.now c.args.source.now c.requires.source c.args.from c.args.len)
    ∙ to_last c.args.view.now c.args.source.now c.requires.source c.args.from c.args.len c.loop-k.k
    (λ k le lt. c.first_after-last.ensures.after k (omega (arith, le)) lt)
