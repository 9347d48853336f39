use Rattle.std.proofs.Common.{ℕ, leb, arith, rules}
use Rattle.std.proofs.lemmas.Bool.{leb-false, leb-true}
use Rattle.std.proofs.lemmas.List.Sorted.{IsPartitionPoint-from_clause, IsPartitionedBy-leb}
use Rattle.lk_tables.specs.declared.records.Record.{Record}
use Rattle.sec_graph.proofs.Needing.{held_upto}
use Rattle.sec_graph.proofs.needed_frames.count_upto.Goals as goal

abbrev number : Record → ℕ
number r = r.from

pub returns : goal.returns
returns c =
    let xs = c.args.records.now in
    let offset = c.args.offset in
    let point = IsPartitionPoint-from_clause (λ (r : Record). leb r.from offset) _ _ c.partition_point.ensures.partitioned (IsPartitionedBy-leb number xs offset c.requires) (λ a r q k. search rules) in
    held_upto xs offset c.partition_point.result c.partition_point.ensures.bound
    (λ k d lt less. leb-true _ _ (point.0 k d (omega arith) less)) (λ k d le lt. leb-false _ _ (point.1 k d le lt))
