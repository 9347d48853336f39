use Rattle.std.proofs.Common.{ltb, ltb-false, rules}
use Rattle.std.proofs.lemmas.List.Sorted.{IsPartitionPoint-from_clause, IsPartitionedBy-ltb}
use Rattle.link_sections.specs.declared.pieces.Piece.{Piece}
use Rattle.reloc_apply.specs.Standing.{no_piece}
use Rattle.reloc_apply.proofs.PoolSteps.{starts_rise}
use Rattle.reloc_apply.proofs.pool_pieces.begun_before.Goals as goal

pub returns-clause-after : goal.returns-clause-after
returns-clause-after c =
    let parted = IsPartitionedBy-ltb (λ (p : Piece). p.position) _ c.args.offset (starts_rise c.args.pieces.now c.requires) in
    let point = IsPartitionPoint-from_clause (λ (p : Piece). ltb p.position c.args.offset) _ _ c.partition_point.ensures.partitioned parted (λ a r q k. search rules) in
    λ k le lt. ltb-false _ _ (point.1 k no_piece le lt)
