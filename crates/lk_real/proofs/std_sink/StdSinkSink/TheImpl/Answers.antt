use Rattle.std.proofs.Common.{None}
use Rattle.lk_real.proofs.StreamSteps.{either_way, put_cause}
use Rattle.lk_real.proofs.std_sink.StdSinkSink.TheImpl.Goals as goal

pub put-tells : goal.put-tells
put-tells g c = record {
  some = c.ensures.some;
  most = c.ensures.most;
  written = either_way None c.result;
  cause = put_cause c.result _ _ c.ensures.after;
}
