use Rattle.comdat.proofs.GroupLists.{signatures_next, signatures_all}
use Rattle.comdat.proofs.signatures.signatures_of.Goals as goal

pub loop-group-preserved : goal.loop-group-preserved
loop-group-preserved c =
    signatures_next c.args.groups.now c.loop-group.group-index _ c.loop-group.list.items c.push.new.self.items c.loop-group-test.true c.in_ok-push.ensures.items c.loop-group.invariant

pub returns : goal.returns
returns c = signatures_all c.args.groups.now c.loop-group.group-index c.loop-group.list.items c.loop-group-test.false c.loop-group.invariant
