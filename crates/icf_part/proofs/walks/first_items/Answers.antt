use Rattle.std.proofs.Common.{◌++◌, ◌∷◌, [], get_or, ap, ◌∙◌, arith}
use Rattle.std.proofs.lemmas.Grind.{get_or_default_zero}
use Rattle.lk_base.proofs.Loops.{mapped_all, mapped_at}
use Rattle.icf_part.proofs.FirstItems.{first_all}
use Rattle.icf_part.proofs.walks.first_items.Goals as goal

pub loop-a-preserved : goal.loop-a-preserved
loop-a-preserved c =
    let firsts = c.in_ok-firsts.firsts.items in
    let label = get_or c.args.labels.now c.loop-a.a 0 in
    let read = c.index.ensures ∙ get_or_default_zero firsts label c.index.result.now (omega (arith, c.in_ok-firsts.ensures.count, c.requires.within c.loop-a.a (omega arith))) in
    mapped_at (λ k. get_or firsts k 0) c.args.labels.now c.loop-a.a 0 c.loop-a.list.items c.push.new.self.items (omega arith) c.loop-a.invariant
    (c.in_ok-push.ensures.items ∙ ap (λ x. c.loop-a.list.items ++ x ∷ []) read)

pub returns : goal.returns
returns c =
    first_all c.args.labels.now c.in_ok-firsts.firsts.items c.loop-a.list.items c.in_ok-firsts.ensures.firsts
    (mapped_all (λ k. get_or c.in_ok-firsts.firsts.items k 0) c.args.labels.now c.loop-a.a c.loop-a.list.items (omega arith) c.loop-a.invariant)
