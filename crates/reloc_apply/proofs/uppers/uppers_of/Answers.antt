use Rattle.std.proofs.Common.{◌+◌, ◌-◌, List, ◌∙◌, ap, drop, length, min, refl, slice_index}
use Rattle.lk_tables.specs.declared.objects.Reloc.{Reloc}
use Rattle.reloc_apply.proofs.Listing.{read_list}
use Rattle.reloc_apply.proofs.uppers.uppers_of.Goals as goal

pub returns : goal.returns
returns c = λ lists listed lt.
    let firsts = c.args.uppers.now.firsts.items in
    let list = c.as_slice-list.ensures.value in
    read_list lists c.args.uppers.now c.args.section (c.args.section + 1) c.min-from.result c.min-count.result c.split_at.result.1.now c.split_at-2.result.0.now listed lt refl
    (c.min-from.ensures ∙ ap (λ n. min n (length c.as_slice-list.result.now)) c.first_at.ensures ∙ ap (λ (l : List Reloc). min (slice_index firsts c.args.section) (length l)) list)
    (c.split_at.ensures.back ∙ ap (drop c.min-from.result) list)
    (c.min-count.ensures ∙ ap (λ n. min n (length c.split_at.result.1.now)) (c.saturating_sub.ensures ∙ ap (λ n. n - c.min-from.result) c.first_at-2.ensures))
    c.split_at-2.ensures.front
