use Rattle.std.proofs.Common.{◌≡◌, ℕ, ◌<◌, ◌≤◌, true, false, length, get_or, sym, ap, ltb, ltb-true, ltb-false, arith, rules}
use Rattle.std.specs.List.Sorted.{IsPartitionPoint}
use Rattle.std.proofs.lemmas.List.Sorted.{IsPartitionPoint-from_clause, IsPartitionedBy-ltb}
use Rattle.lk_tables.specs.declared.commons.BoundCommon.{BoundCommon}
use Rattle.lk_tables.proofs.Finding.{found, missing_at, missing_past}
use Rattle.lk_tables.proofs.binding_parts.room_of.Goals as goal
use Rattle.lk_tables.proofs.binding_parts.room_of.Goals.{After-partition_point-n}

abbrev number : BoundCommon → ℕ
number common = common.section

no_common : BoundCommon
no_common = record { file = 0; symbol = 0; section = 0; size = 0; align = 0 }

point : (c : After-partition_point-n) →
    IsPartitionPoint (λ (x : BoundCommon). ltb x.section c.args.section ≡ true) (λ (x : BoundCommon). ltb x.section c.args.section ≡ false) c.args.commons.now c.partition_point-n.result
point c =
    let parted = IsPartitionedBy-ltb number c.args.commons.now c.args.section c.requires in
    IsPartitionPoint-from_clause (λ (x : BoundCommon). ltb x.section c.args.section) _ _ c.partition_point-n.ensures.partitioned parted (λ a r q k. search rules)

before : (c : After-partition_point-n) (k : ℕ) (d : BoundCommon) → k < c.partition_point-n.result → number (get_or c.args.commons.now k d) < c.args.section
before c k d lt = ltb-true _ _ ((point c).0 k d (omega arith) lt)

next : (c : After-partition_point-n) (d : BoundCommon) → c.partition_point-n.result < length c.args.commons.now → c.args.section ≤ number (get_or c.args.commons.now c.partition_point-n.result d)
next c d lt = ltb-false _ _ ((point c).1 c.partition_point-n.result d (omega arith) lt)

pub returns-in_default : goal.returns-in_default
returns-in_default c =
    let p = (goal.at.returns-in_default c).After-partition_point-n in
    sym (missing_past number c.args.commons.now c.args.section c.partition_point-n.result no_common (search rules) (before p))

pub returns-then-common-section : goal.returns-then-common-section
returns-then-common-section c =
    let p = (goal.at.returns-then-common-section c).After-partition_point-n in
    let lt : c.partition_point-n.result < length c.args.commons.now = search rules in
    let is = c.in-Some.ensures.lookup.1 in
    let low = next p c.in-Some.common.now lt in
    sym (missing_at number c.args.commons.now c.args.section c.partition_point-n.result c.in-Some.common.now c.requires lt (before p) is
    (omega (arith, low, ap number is)) c.if-common-section.true)

pub returns : goal.returns
returns c =
    let p = (goal.at.returns c).After-partition_point-n in
    let lt : c.partition_point-n.result < length c.args.commons.now = search rules in
    sym (found number c.args.commons.now c.args.section c.partition_point-n.result c.in-Some.common.now lt (before p) c.in-Some.ensures.lookup.1 c.if-common-section.false)
