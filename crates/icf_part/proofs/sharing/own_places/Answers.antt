use Rattle.std.proofs.Common.{◌≡◌, [], ◌∷◌, ◌++◌, sym, ap, ◌∙◌, arith}
use Rattle.std.specs.List.{range_with_len}
use Rattle.lk_base.proofs.Loops.{range_more}
use Rattle.icf_part.proofs.sharing.own_places.Goals as goal

pub loop-a-preserved : goal.loop-a-preserved
loop-a-preserved c = c.in_ok-push.ensures.items ∙ ap (λ l. l ++ c.loop-a.a ∷ []) c.loop-a.invariant ∙ sym (range_more c.loop-a.a)

pub returns : goal.returns
returns c = let same : c.loop-a.a ≡ c.args.count = omega arith in c.loop-a.invariant ∙ ap (range_with_len 0) same
