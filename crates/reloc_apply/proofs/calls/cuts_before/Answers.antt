use Rattle.std.proofs.Common.{ltb, ltb-true, ltb-false, arith, rules}
use Rattle.std.proofs.lemmas.List.Sorted.{IsPartitionPoint-from_clause, IsPartitionedBy-ltb}
use Rattle.link_sections.specs.declared.cuts.Cut.{Cut}
use Rattle.reloc_apply.specs.Sites.{no_held}
use Rattle.reloc_apply.proofs.CutViews.{ats_in_order}
use Rattle.reloc_apply.proofs.calls.cuts_before.Goals as goal

pub returns-clause-before : goal.returns-clause-before
returns-clause-before c =
    let parted = IsPartitionedBy-ltb (λ (k : Cut). k.at) _ c.args.offset (ats_in_order c.args.cuts.now c.requires) in
    let point = IsPartitionPoint-from_clause (λ (k : Cut). ltb k.at c.args.offset) _ _ c.partition_point.ensures.partitioned parted (λ a r q k. search rules) in
    λ k lt. ltb-true _ _ (point.0 k no_held (omega arith) lt)

pub returns-clause-next : goal.returns-clause-next
returns-clause-next c =
    let parted = IsPartitionedBy-ltb (λ (k : Cut). k.at) _ c.args.offset (ats_in_order c.args.cuts.now c.requires) in
    let point = IsPartitionPoint-from_clause (λ (k : Cut). ltb k.at c.args.offset) _ _ c.partition_point.ensures.partitioned parted (λ a r q k. search rules) in
    λ k le lt. ltb-false _ _ (point.1 k no_held le lt)
