use Rattle.std.proofs.Common.{ℕ, [], ◌++◌, get_or, ap, sym, ◌∙◌, arith}
use Rattle.std.specs.Global.{Vec}
use Rattle.icf_part.specs.Classes.{lists_of}
use Rattle.icf_part.proofs.Collected.{flat_all, flat_at}
use Rattle.icf_part.proofs.EdgesInto.{list_at}
use Rattle.icf_part.proofs.turns.edges_of.Goals as goal

pub loop-i-preserved : goal.loop-i-preserved
loop-i-preserved c =
    flat_at (λ a. get_or (lists_of c.args.into.now) a []) [] c.args.items.now c.loop-i.i 0 c.loop-i.words.items c.extend_from_slice.new.self.items (omega arith) c.loop-i.invariant
    (c.in_ok-extend_from_slice.ensures.items ∙ ap (λ l. c.loop-i.words.items ++ l) (c.as_slice.ensures.value ∙ ap (λ (v : Vec ℕ). v.items) c.index-into-items.is ∙ sym (list_at c.args.into.now (get_or c.args.items.now c.loop-i.i 0) _ (c.requires c.loop-i.i 0 (omega arith)))))

pub returns : goal.returns
returns c = flat_all (λ a. get_or (lists_of c.args.into.now) a []) [] c.args.items.now c.loop-i.i c.loop-i.words.items (omega arith) c.loop-i.invariant
