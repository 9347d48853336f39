use Rattle.std.proofs.Common.{ltb, ltb-true, ltb-false, arith, rules}
use Rattle.std.proofs.lemmas.List.Sorted.{IsPartitionPoint-from_clause, IsPartitionedBy-ltb}
use Rattle.lk_tables.specs.declared.objects.Reloc.{Reloc}
use Rattle.lk_tables.proofs.reloc_offsets.relocs_before.Goals as goal

pub returns-clause-before : goal.returns-clause-before
returns-clause-before c =
    let parted = IsPartitionedBy-ltb (λ (r : Reloc). r.offset) _ c.args.offset c.requires in
    let point = IsPartitionPoint-from_clause (λ (r : Reloc). ltb r.offset c.args.offset) _ _ c.partition_point.ensures.partitioned parted (λ a r q k. search rules) in
    λ k d lt. ltb-true _ _ (point.0 k d (omega arith) lt)

pub returns-clause-next : goal.returns-clause-next
returns-clause-next c =
    let parted = IsPartitionedBy-ltb (λ (r : Reloc). r.offset) _ c.args.offset c.requires in
    let point = IsPartitionPoint-from_clause (λ (r : Reloc). ltb r.offset c.args.offset) _ _ c.partition_point.ensures.partitioned parted (λ a r q k. search rules) in
    λ k d le lt. ltb-false _ _ (point.1 k d le lt)
