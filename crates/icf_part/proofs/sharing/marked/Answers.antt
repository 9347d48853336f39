use Rattle.icf_part.proofs.SharedItems.{marked_next}
use Rattle.icf_part.proofs.sharing.marked.Goals as goal

pub loop-a-preserved : goal.loop-a-preserved
loop-a-preserved c =
    marked_next c.args.bytes.now c.loop-a.a c.loop-a.shared.items c.mark_if.new.shared.items (c.requires c.loop-a.a c.loop-a-test.true) c.loop-a.invariant c.mark_if.ensures
