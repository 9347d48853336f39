use Rattle.std.proofs.Common.{◌≡◌, ◌==◌, ℕ, ◌<◌, ◌≤◌, true, false, length, get_or, sym, ap, ◌∙◌, ltb, ltb-true, ltb-false, arith, rules}
use Rattle.std.specs.List.Sorted.{IsPartitionPoint}
use Rattle.std.proofs.lemmas.List.Sorted.{IsPartitionPoint-from_clause, IsPartitionedBy-ltb}
use Rattle.relax.proofs.Hints.{found_at, none_below}
use Rattle.relax.proofs.calls.has_hint.Goals as goal
use Rattle.relax.proofs.calls.has_hint.Goals.{After-partition_point-n}

point : (c : After-partition_point-n) →
    IsPartitionPoint (λ (x : ℕ). ltb x c.args.offset ≡ true) (λ (x : ℕ). ltb x c.args.offset ≡ false) c.args.hints.now c.partition_point-n.result
point c =
    let parted = IsPartitionedBy-ltb (λ (x : ℕ). x) c.args.hints.now c.args.offset c.requires in
    IsPartitionPoint-from_clause (λ (x : ℕ). ltb x c.args.offset) _ _ c.partition_point-n.ensures.partitioned parted (λ a r q k. search rules)

before : (c : After-partition_point-n) (k d : ℕ) → k < c.partition_point-n.result → get_or c.args.hints.now k d < c.args.offset
before c k d lt = ltb-true _ _ ((point c).0 k d (omega arith) lt)

next : (c : After-partition_point-n) (d : ℕ) → c.partition_point-n.result < length c.args.hints.now → c.args.offset ≤ get_or c.args.hints.now c.partition_point-n.result d
next c d lt = ltb-false _ _ ((point c).1 c.partition_point-n.result d (omega arith) lt)

pub returns-in-Some : goal.returns-in-Some
returns-in-Some c =
    let p = (goal.at.returns-in-Some c).After-partition_point-n in
    let lt : c.partition_point-n.result < length c.args.hints.now = search rules in
    let is = c.in-Some.ensures.lookup.1 in
    ap (λ h. h == c.args.offset) is
    ∙ sym (found_at c.args.hints.now c.args.offset c.partition_point-n.result c.in-Some.hint.now c.requires lt (before p) (next p c.in-Some.hint.now lt))

pub returns-in-None : goal.returns-in-None
returns-in-None c =
    let p = (goal.at.returns-in-None c).After-partition_point-n in
    let past : length c.args.hints.now ≤ c.partition_point-n.result = search rules in
    sym (none_below c.args.hints.now c.args.offset (λ k d lt. before p k d (omega (arith, lt, past))))
