use Rattle.std.proofs.Common.{ℕ, ltb, leb, ltb-true, ltb-false, arith, rules, ◌∙◌}
use Rattle.std.proofs.lemmas.Bool.{leb-true, leb-false}
use Rattle.std.proofs.lemmas.List.Sorted.{IsPartitionPoint-from_clause, IsPartitionedBy-ltb, IsPartitionedBy-leb}
use Rattle.sec_graph.specs.declared.pairs.Pair.{Pair}
use Rattle.sec_graph.proofs.Runs.{IsBetween, between_is, in_order}
use Rattle.sec_graph.proofs.pairs.pairs_from.Goals as goal
use Rattle.sec_graph.proofs.pairs.pairs_from.Goals.{After-partition_point-to}

abbrev number : Pair → ℕ
number p = p.from

no_pair : Pair
no_pair = record { from = 0; to = 0 }

between : (c : After-partition_point-to) → IsBetween number c.args.pairs.now c.args.section c.partition_point-from.result c.partition_point-to.result
between c =
    let pairs = c.args.pairs.now in
    let s = c.args.section in
    let low = IsPartitionPoint-from_clause (λ (p : Pair). ltb p.from s) _ _ c.partition_point-from.ensures.partitioned (IsPartitionedBy-ltb number pairs s c.requires) (λ a r q k. search rules) in
    let high = IsPartitionPoint-from_clause (λ (p : Pair). leb p.from s) _ _ c.partition_point-to.ensures.partitioned (IsPartitionedBy-leb number pairs s c.requires) (λ a r q k. search rules) in
    record {
      within = c.partition_point-to.ensures.bound;
      first = c.partition_point-from.ensures.bound;
      below = λ k d lt less. ltb-true _ _ (low.0 k d (omega arith) less);
      least = λ k d lt le. ltb-false _ _ (low.1 k d le lt);
      most = λ k d lt less. leb-true _ _ (high.0 k d (omega arith) less);
      above = λ k d lt le. leb-false _ _ (high.1 k d le lt);
    }

pub part-requires-clause-order : goal.part-requires-clause-order
part-requires-clause-order c =
    in_order number c.args.pairs.now no_pair c.args.section c.partition_point-from.result c.partition_point-to.result (between c)

pub returns : goal.returns
returns c =
    let p = (goal.at.returns c).After-partition_point-to in
    c.part.ensures ∙ between_is number c.args.pairs.now c.args.section c.partition_point-from.result c.partition_point-to.result (between p)
    (in_order number c.args.pairs.now no_pair c.args.section c.partition_point-from.result c.partition_point-to.result (between p))
