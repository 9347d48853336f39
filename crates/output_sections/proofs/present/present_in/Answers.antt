use Rattle.std.proofs.Common.{refl, arith}
use Rattle.output_sections.proofs.Presence.{each_class, met_all, met_next}
use Rattle.output_sections.proofs.present.present_in.Goals as goal

pub loop-i-init : goal.loop-i-init
loop-i-init c = each_class _ refl refl refl refl refl refl

pub loop-i-preserved : goal.loop-i-preserved
loop-i-preserved c =
    let step = c.with_item-present.ensures in
    met_next c.args.items.now c.loop-i.i _ c.loop-i.present c.with_item-present.result (omega arith) step.r step.rx step.tls_bits step.tls_nobits step.rw_bits step.rw_nobits c.loop-i.invariant

pub returns : goal.returns
returns c = met_all c.args.items.now c.loop-i.i c.loop-i.present (omega arith) c.loop-i.invariant
