use Rattle.std.proofs.Common.{get_or, arith}
use Rattle.lk_base.proofs.Loops.{mapped_all, mapped_at}
use Rattle.icf_part.proofs.sharing.chosen_numbers.Goals as goal

pub loop-k-preserved : goal.loop-k-preserved
loop-k-preserved c = mapped_at (λ a. get_or c.args.numbers.now a 0) c.args.chosen.now c.loop-k.k 0 c.loop-k.list.items c.push.new.self.items (omega arith) c.loop-k.invariant c.in_ok-push.ensures.items

pub returns : goal.returns
returns c = mapped_all (λ a. get_or c.args.numbers.now a 0) c.args.chosen.now c.loop-k.k c.loop-k.list.items (omega arith) c.loop-k.invariant
