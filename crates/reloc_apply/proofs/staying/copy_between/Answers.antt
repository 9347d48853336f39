use Rattle.std.proofs.Common.{◌≡◌, ◌+◌, ◌-◌, ◌<◌, ◌≤◌, length, get_or, slice_index, ap, sym, ◌∙◌, arith}
use Rattle.std.proofs.lemmas.List.{length-map}
use Rattle.link_sections.specs.CutsView.{cut_view, cut_views}
use Rattle.reloc_apply.specs.Staying.{new_before, no_cut, old_before}
use Rattle.reloc_apply.proofs.BetweenCuts.{between}
use Rattle.reloc_apply.proofs.StayingSizes.{split}
use Rattle.reloc_apply.proofs.staying.copy_between.Goals as goal
use Rattle.reloc_apply.proofs.staying.copy_between.Goals.{After-ends_before-old}

pub ends_before-old-requires-clause-small : goal.ends_before-old-requires-clause-small
ends_before-old-requires-clause-small c = λ i d lt. let lies = c.requires.within i d lt in omega (arith, lies, c.requires.short)

old_low : (c : After-ends_before-old) → c.partition_point-k.result ≤ length c.args.cuts.now → c.ends_before-old.result.0 ≤ length c.args.raw.now
old_low c le =
    let views = cut_views c.args.cuts.now in
    let s = split views c.args.raw.now c.partition_point-k.result c.requires.cuts.apart c.requires.within (omega (arith, le, length-map c.args.cuts.now cut_view)) in
    let within = s.within in
    omega (arith, within, c.ends_before-old.ensures.old)

pub overflow_add-start : goal.overflow_add-start
overflow_add-start c =
    let p = (goal.at.overflow_add-start c).After-ends_before-old in
    let low = old_low p (omega (arith, c.partition_point-k.ensures.bound)) in
    omega (arith, low, c.requires.short, c.requires.low)

pub overflow_add-end : goal.overflow_add-end
overflow_add-end c =
    let p = (goal.at.overflow_add-end c).After-ends_before-old in
    let low = old_low p (omega (arith, c.partition_point-k.ensures.bound)) in
    omega (arith, low, c.requires.short, c.requires.low, c.requires.few)

pub returns-clause-shows : goal.returns-clause-shows
returns-clause-shows c = λ told j lt.
    let cuts = c.args.cuts.now in
    let views = cut_views cuts in
    let raw = c.args.raw.now in
    let at = c.args.at in
    let n = length c.args.window.now in
    let k = c.partition_point-k.result in
    let old = c.ends_before-old.ensures.old in
    let new = c.ends_before-old.ensures.new in
    let many = length-map cuts cut_view in
    let le : k ≤ length views = omega (arith, c.partition_point-k.ensures.bound, many) in
    let low : new_before views k ≤ at = omega (arith, c.if-at-new.false, new) in
    let start : c.ends_before-old.result.0 + (at - c.ends_before-old.result.1) ≡ old_before views k + (at - new_before views k) = omega (arith, old, new) in
    let before : k < length views → old_before views k + (at - new_before views k) + n ≤ (get_or views k no_cut).at =
    λ some. let end = c.ends_by.ensures.cut c.if-not-ends_by.false (omega (arith, some, many)) in omega (arith, end, start) in
    c.copy_part.ensures j lt ∙ ap (λ s. slice_index raw (s + j)) start
    ∙ between views raw k c.requires.cuts.apart c.requires.within le at n j low before (omega (arith, lt, c.copy_part.auto.window))
