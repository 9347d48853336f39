use Rattle.std.proofs.Common.{arith}
use Rattle.lk_base.proofs.Loops.{collect_step}
use Rattle.link_gen.specs.Generated.{call}
use Rattle.link_gen.proofs.contents.push_calls.Goals as goal

pub loop-call-preserved : goal.loop-call-preserved
loop-call-preserved c =
    collect_step (λ i. call) c.loop-call._call c.args.calls c.loop-call.out.items c.push_call.new.out.items _ (omega arith) c.loop-call.invariant
    c.in_ok-push_call.ensures
