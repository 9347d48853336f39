use Rattle.std.proofs.Common.{ℕ, ◌-◌, leb, leb-true, arith, rules}
use Rattle.std.proofs.lemmas.List.Sorted.{IsPartitionPoint-from_clause, IsPartitionedBy-leb}
use Rattle.link_sections.specs.declared.cuts.Cut.{Cut as HeldCut}
use Rattle.reloc_apply.proofs.CutViews.{news_rise}
use Rattle.reloc_apply.proofs.staying.first_cut.Goals as goal

abbrev new_of : HeldCut → ℕ
new_of cut = cut.new_at

pub returns-clause-before : goal.returns-clause-before
returns-clause-before c = λ d some.
    let parted = IsPartitionedBy-leb new_of c.args.cuts.now c.args.offset (news_rise c.args.cuts.now c.requires) in
    let point = IsPartitionPoint-from_clause (λ (x : HeldCut). leb x.new_at c.args.offset) _ _ c.partition_point-n.ensures.partitioned parted (λ a r q k. search rules) in
    leb-true _ _ (point.0 (c.partition_point-n.result - 1) d (omega arith) (omega arith))
