use Rattle.std.proofs.Common.{ltb, ltb-true, ltb-false, arith, rules}
use Rattle.std.proofs.lemmas.List.Sorted.{IsPartitionPoint-from_clause, IsPartitionedBy-ltb}
use Rattle.lk_tables.specs.declared.objects.Reloc.{Reloc}
use Rattle.lk_tables.specs.Files.{no_reloc}
use Rattle.reloc_apply.specs.Sites.{offset_by}
use Rattle.reloc_apply.proofs.scanning.count_below.Goals as goal

pub returns-clause-before : goal.returns-clause-before
returns-clause-before c =
    let at = λ (r : Reloc). offset_by c.args.view.now c.args.source.now r in
    let parted = IsPartitionedBy-ltb at _ c.args.limit c.requires.rising in
    let point = IsPartitionPoint-from_clause (λ (r : Reloc). ltb (at r) c.args.limit) _ _ c.partition_point.ensures.partitioned parted (λ a r q k. search rules) in
    λ k lt. ltb-true _ _ (point.0 k no_reloc (omega arith) lt)

pub returns-clause-next : goal.returns-clause-next
returns-clause-next c =
    let at = λ (r : Reloc). offset_by c.args.view.now c.args.source.now r in
    let parted = IsPartitionedBy-ltb at _ c.args.limit c.requires.rising in
    let point = IsPartitionPoint-from_clause (λ (r : Reloc). ltb (at r) c.args.limit) _ _ c.partition_point.ensures.partitioned parted (λ a r q k. search rules) in
    λ k le lt. ltb-false _ _ (point.1 k no_reloc le lt)
