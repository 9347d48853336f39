use Rattle.std.proofs.Common.{arith, subst, sym}
use Rattle.piped_reads.specs.Readings.{heads_from}
use Rattle.piped_reads.specs.Stops.{StopsSo}
use Rattle.piped_reads.specs.declared.reading.HeadsStop.{HeadsStop}
use Rattle.piped_reads.proofs.HeadSteps.{all_heads, next_head, no_heads, stops_here}
use Rattle.piped_reads.proofs.reading.read_members.Goals as goal

pub loop-place-init : goal.loop-place-init
loop-place-init c = no_heads c.new-heads.result.items (heads_from c.args.bytes.now 0 c.args.members.now) c.new-heads.ensures.items

pub loop-place-preserved : goal.loop-place-preserved
loop-place-preserved c =
    next_head c.args.bytes.now c.args.members.now c.loop-place.place _ c.in-Ok.head c.loop-place.heads.items c.push.new.self.items (heads_from c.args.bytes.now 0 c.args.members.now)
    (omega arith) c.in-Ok.ensures c.in-Ok-push.ensures.items c.loop-place.invariant

pub returns-in-Err : goal.returns-in-Err
returns-in-Err c =
    let P : HeadsStop → Type 0 = λ stop. StopsSo stop (heads_from c.args.bytes.now 0 c.args.members.now) in
    subst P (sym c.stop_at.ensures)
    (stops_here c.args.bytes.now c.args.members.now c.loop-place.place _ c.in-Err.fault c.loop-place.heads.items (heads_from c.args.bytes.now 0 c.args.members.now)
    (omega arith) c.in-Err.ensures c.loop-place.invariant)

pub returns : goal.returns
returns c = all_heads c.args.bytes.now c.args.members.now c.loop-place.place c.loop-place.heads.items (heads_from c.args.bytes.now 0 c.args.members.now) (omega arith) c.loop-place.invariant
