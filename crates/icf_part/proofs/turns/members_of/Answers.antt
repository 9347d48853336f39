use Rattle.std.proofs.Common.{◌==◌, get_or, arith}
use Rattle.icf_part.proofs.Collected.{filtered_all, filtered_more}
use Rattle.icf_part.proofs.turns.members_of.Goals as goal

pub loop-i-preserved : goal.loop-i-preserved
loop-i-preserved c =
    filtered_more (λ a. get_or c.args.labels.now a 0 == c.args.label) c.args.list.now c.loop-i.i c.loop-i.own.items c.push_if.new.list.items (omega arith) c.loop-i.invariant c.in_ok-push_if.ensures

pub returns : goal.returns
returns c = filtered_all (λ a. get_or c.args.labels.now a 0 == c.args.label) c.args.list.now c.loop-i.i c.loop-i.own.items (omega arith) c.loop-i.invariant
