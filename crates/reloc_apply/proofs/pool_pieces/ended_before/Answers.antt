use Rattle.std.proofs.Common.{◌+◌, ◌-◌, ◌^◌, ltb, ltb-true, min, arith, rules}
use Rattle.std.proofs.lemmas.List.Sorted.{IsPartitionPoint-from_clause, IsPartitionedBy-ltb}
use Rattle.link_sections.specs.declared.pieces.Piece.{Piece}
use Rattle.reloc_apply.specs.Standing.{no_piece}
use Rattle.reloc_apply.proofs.PoolSteps.{ends_rise}
use Rattle.reloc_apply.proofs.pool_pieces.ended_before.Goals as goal

pub returns-clause-before : goal.returns-clause-before
returns-clause-before c =
    let end = λ (p : Piece). min (p.position + p.text.len) (2 ^ 64 - 1) in
    let parted = IsPartitionedBy-ltb end _ (c.args.offset + 1) (ends_rise c.args.pieces.now (2 ^ 64 - 1) c.requires.order) in
    let point = IsPartitionPoint-from_clause (λ (p : Piece). ltb (end p) (c.args.offset + 1)) _ _ c.partition_point.ensures.partitioned parted (λ a r q k. search rules) in
    λ k lt. let below = ltb-true _ _ (point.0 k no_piece (omega arith) lt) in omega (arith, below, c.requires.low)
