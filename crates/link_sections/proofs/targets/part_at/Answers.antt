use Rattle.std.proofs.Common.{◌≡◌, ◌-◌, ◌<◌, true, false, length, get_or, sym, ap, ◌∙◌, leb, rules}
use Rattle.std.specs.List.{prefix_len}
use Rattle.std.specs.List.Sorted.{IsPartitionPoint}
use Rattle.std.proofs.lemmas.List.{get_or_default}
use Rattle.std.proofs.lemmas.List.Sorted.{IsPartitionPoint-from_clause, IsPartitionedBy-leb}
use Rattle.std.proofs.lemmas.List.Sums.{prefix_len_is}
use Rattle.link_sections.specs.declared.pieces.Part.{Part}
use Rattle.link_sections.specs.PieceTargets.{part_at, no_part}
use Rattle.link_sections.proofs.targets.part_at.Goals as goal
use Rattle.link_sections.proofs.targets.part_at.Goals.{After-partition_point-n}

point : (c : After-partition_point-n) →
    IsPartitionPoint (λ (x : Part). leb x.start c.args.offset ≡ true) (λ (x : Part). leb x.start c.args.offset ≡ false) c.args.parts.now c.partition_point-n.result
point c =
    let parted = IsPartitionedBy-leb (λ (x : Part). x.start) c.args.parts.now c.args.offset c.requires in
    IsPartitionPoint-from_clause (λ (x : Part). leb x.start c.args.offset) _ _ c.partition_point-n.ensures.partitioned parted (λ a r q k. search rules)

counted : (c : After-partition_point-n) → prefix_len (λ (x : Part). leb x.start c.args.offset) c.args.parts.now ≡ c.partition_point-n.result
counted c =
    let p = point c in
    prefix_len_is (λ (x : Part). leb x.start c.args.offset) c.args.parts.now c.partition_point-n.result no_part (search rules)
    (λ k lt. p.0 k no_part (search rules) lt) (λ lt. p.1 c.partition_point-n.result no_part (search rules) lt)

pub returns-in-Some : goal.returns-in-Some
unfolding part_at
returns-in-Some c =
    let p = (goal.at.returns-in-Some c).After-partition_point-n in
    let k = c.saturating_sub.result in
    let parts = c.args.parts.now in
    let lt : k < length parts = search rules in
    let at : k ≡ prefix_len (λ (x : Part). leb x.start c.args.offset) parts - 1 = c.saturating_sub.ensures ∙ ap (λ n. n - 1) (sym (counted p)) in
    let is = c.in-Some.ensures.lookup.1 in
    is ∙ get_or_default parts k c.in-Some.part.now no_part lt ∙ ap (λ n. get_or parts n no_part) at
