use Rattle.std.proofs.Common.{ltb, ltb-false, rules}
use Rattle.std.proofs.lemmas.List.Sorted.{IsPartitionPoint-from_clause, IsPartitionedBy-ltb}
use Rattle.link_sections.specs.declared.members.Member.{Member}
use Rattle.reloc_apply.specs.Founds.{no_member}
use Rattle.reloc_apply.proofs.MemberFacts.{starts_rise}
use Rattle.reloc_apply.proofs.relocated.begun_before.Goals as goal

pub returns-clause-after : goal.returns-clause-after
returns-clause-after c =
    let parted = IsPartitionedBy-ltb (λ (m : Member). m.start) _ c.args.address (starts_rise c.args.members.now c.requires) in
    let point = IsPartitionPoint-from_clause (λ (m : Member). ltb m.start c.args.address) _ _ c.partition_point.ensures.partitioned parted (λ a r q k. search rules) in
    λ k le lt. ltb-false _ _ (point.1 k no_member le lt)
