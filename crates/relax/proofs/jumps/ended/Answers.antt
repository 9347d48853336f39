use Rattle.std.proofs.Common.{◌≡◌, ◌+◌, true, false, sym, leb, arith, rules}
use Rattle.std.specs.List.Sorted.{IsPartitionPoint}
use Rattle.std.proofs.lemmas.List.Sorted.{IsPartitionPoint-from_clause, IsPartitionedBy-leb}
use Rattle.std.proofs.lemmas.List.Sums.{prefix_len_is}
use Rattle.relax.specs.declared.calls.Call.{Call}
use Rattle.relax.specs.Points.{no_call}
use Rattle.relax.proofs.jumps.ended.Goals as goal

pub returns : goal.returns
returns c =
    let row = c.args.row.now in
    let o = c.args.offset in
    let parted = IsPartitionedBy-leb (λ (x : Call). x.offset + 8) row o (λ i j d le lt. let low = c.requires i j d le lt in omega (arith, low)) in
    let point : IsPartitionPoint (λ (x : Call). leb (x.offset + 8) o ≡ true) (λ (x : Call). leb (x.offset + 8) o ≡ false) row c.partition_point.result =
    IsPartitionPoint-from_clause (λ (x : Call). leb (x.offset + 8) o) _ _ c.partition_point.ensures.partitioned parted (λ a r q k. search rules) in
    let bound = c.partition_point.ensures.bound in
    sym (prefix_len_is (λ (x : Call). leb (x.offset + 8) o) row c.partition_point.result (no_call o) (search rules)
    (λ k lt. point.0 k (no_call o) (search rules) lt) (λ lt. point.1 c.partition_point.result (no_call o) (search rules) lt))
