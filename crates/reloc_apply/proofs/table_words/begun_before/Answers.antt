use Rattle.std.proofs.Common.{ltb, ltb-false, rules}
use Rattle.std.proofs.lemmas.List.Sorted.{IsPartitionPoint-from_clause, IsPartitionedBy-ltb}
use Rattle.link_sections.specs.declared.got.GotEntry.{GotEntry}
use Rattle.reloc_apply.specs.Standing.{no_entry}
use Rattle.reloc_apply.proofs.TableSteps.{words_rise}
use Rattle.reloc_apply.proofs.table_words.begun_before.Goals as goal

pub returns-clause-after : goal.returns-clause-after
returns-clause-after c =
    let parted = IsPartitionedBy-ltb (λ (e : GotEntry). e.word) _ c.args.word (words_rise c.args.entries.now c.requires) in
    let point = IsPartitionPoint-from_clause (λ (e : GotEntry). ltb e.word c.args.word) _ _ c.partition_point.ensures.partitioned parted (λ a r q k. search rules) in
    λ k le lt. ltb-false _ _ (point.1 k no_entry le lt)
