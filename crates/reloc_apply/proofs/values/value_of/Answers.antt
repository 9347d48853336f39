use Rattle.std.proofs.Common.{sym}
use Rattle.lk_base.specs.RelocKinds.{HasValue}
use Rattle.reloc_apply.proofs.LowerValues.{lower_has, of_any}
use Rattle.reloc_apply.proofs.values.value_of.Goals as goal

pub returns-clause-kind : goal.returns-clause-kind
returns-clause-kind c =
    of_any c.direct_value-2.result (HasValue c.args.reloc.now.kind) (lower_has c.args.reloc.now.kind (sym c.if-not-is_lower.ensures))
