use Rattle.std.proofs.Common.{◌+◌, ◌-◌, ◌^◌, ltb, ltb-true, min, arith, rules}
use Rattle.std.proofs.lemmas.List.Sorted.{IsPartitionPoint-from_clause, IsPartitionedBy-ltb}
use Rattle.link_sections.specs.declared.got.GotEntry.{GotEntry}
use Rattle.reloc_apply.specs.Standing.{no_entry}
use Rattle.reloc_apply.proofs.TableSteps.{ends_rise}
use Rattle.reloc_apply.proofs.table_words.ended_before.Goals as goal

pub returns-clause-before : goal.returns-clause-before
returns-clause-before c =
    let end = λ (e : GotEntry). min (e.word + 2) (2 ^ 64 - 1) in
    let parted = IsPartitionedBy-ltb end _ (c.args.word + 1) (ends_rise c.args.entries.now (2 ^ 64 - 1) c.requires.numbered) in
    let point = IsPartitionPoint-from_clause (λ (e : GotEntry). ltb (end e) (c.args.word + 1)) _ _ c.partition_point.ensures.partitioned parted (λ a r q k. search rules) in
    λ k lt. let below = ltb-true _ _ (point.0 k no_entry (omega arith) lt) in omega (arith, below, c.requires.low)
