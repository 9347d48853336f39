use Rattle.std.proofs.Common.{length, ap, refl}
use Rattle.relax.specs.Bands.{raised_from}
use Rattle.relax.proofs.bands.next_round.Goals as goal

pub loop-one-init : goal.loop-one-init
loop-one-init c = record {
  raised = ap (raised_from c.args.sizes.now c.args.opens.now) c.in_ok-raised.ensures.items;
  count = ap length c.in_ok-raised.ensures.items;
  rises = refl;
}
