use Rattle.std.proofs.Common.{length, ap, arith}
use Rattle.lk_tables.specs.Heads.{HeadView}
use Rattle.lk_tables.proofs.FewSections.{few_added}
use Rattle.lk_tables.proofs.tables.Heads.add.Goals as goal

pub invariant_of-push : goal.invariant_of-push
invariant_of-push c =
    let sections = ap (λ (h : HeadView). length h.sections) c.head_or_none-head.ensures in
    record { few = omega (arith, few_added c.args.bytes.now c.args.head c.requires.head, sections); short = tt; headed = tt; bodied = tt }
