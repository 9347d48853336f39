use Rattle.std.proofs.Common.{get_or, arith}
use Rattle.lk_base.proofs.Loops.{mapped_all, mapped_at}
use Rattle.icf_part.specs.Classes.{word}
use Rattle.icf_part.proofs.splitting.labelled.Goals as goal

pub loop-i-preserved : goal.loop-i-preserved
loop-i-preserved c = mapped_at (λ a. word (get_or c.args.labels.now a 0) a) c.args.list.now c.loop-i.i 0 c.loop-i.keys.items c.push.new.self.items (omega arith) c.loop-i.invariant c.in_ok-push.ensures.items

pub returns : goal.returns
returns c = mapped_all (λ a. word (get_or c.args.labels.now a 0) a) c.args.list.now c.loop-i.i c.loop-i.keys.items (omega arith) c.loop-i.invariant
