use Rattle.std.proofs.Common.{◌+◌, ◌-◌, ◌^◌, ltb, ltb-true, min, arith, rules}
use Rattle.std.proofs.lemmas.List.Sorted.{IsPartitionPoint-from_clause, IsPartitionedBy-ltb}
use Rattle.link_sections.specs.declared.members.Member.{Member}
use Rattle.reloc_apply.specs.Founds.{no_member}
use Rattle.reloc_apply.proofs.MemberFacts.{ends_rise}
use Rattle.reloc_apply.proofs.relocated.ended_before.Goals as goal

pub returns-clause-before : goal.returns-clause-before
returns-clause-before c =
    let end = λ (m : Member). min (m.start + m.size) (2 ^ 64 - 1) in
    let parted = IsPartitionedBy-ltb end _ (c.args.address + 1) (ends_rise c.args.members.now (2 ^ 64 - 1) c.requires.order) in
    let point = IsPartitionPoint-from_clause (λ (m : Member). ltb (end m) (c.args.address + 1)) _ _ c.partition_point.ensures.partitioned parted (λ a r q k. search rules) in
    λ k lt. let below = ltb-true _ _ (point.0 k no_member (omega arith) lt) in omega (arith, below, c.requires.low)
