use Rattle.std.proofs.Common.{ℕ, ap, sym, ◌∙◌, arith}
use Rattle.std.specs.Global.{Vec}
use Rattle.icf_part.proofs.EdgesInto.{list_at}
use Rattle.icf_part.proofs.turns.list_at.Goals as goal

pub returns : goal.returns
returns c = c.as_slice.ensures.value ∙ ap (λ (v : Vec ℕ). v.items) c.index-lists-number.is ∙ sym (list_at c.args.lists.now c.args.number _ (omega arith))
