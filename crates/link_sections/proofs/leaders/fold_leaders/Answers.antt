use Rattle.std.proofs.Common.{◌<◌, Some, length, map, set, get_or, sym, ap, ◌∙◌, arith, refl}
use Rattle.link_sections.specs.FoldItems.{item_views, section_of}
use Rattle.link_sections.specs.Leaders.{folded_leaders}
use Rattle.link_sections.proofs.Folded.{fold_end, fold_step, past_one, section_is, sections_wide}
use Rattle.link_sections.proofs.leaders.fold_leaders.Goals as goal

pub loop-i-preserved : goal.loop-i-preserved
loop-i-preserved c =
    let items = c.args.items.now in
    let views = item_views items in
    let places = c.args.places.now in
    let i = c.loop-i.i in
    let n = (get_or items i c.index-items-i.result).section in
    let p = get_or places i 0 in
    let in_items : i < length items = omega (arith, c.loop-i-test.true, c.min-i-end.ensures) in
    let in_places : i < length places = omega (arith, c.loop-i-test.true, c.min-i-end.ensures) in
    fold_step views (map section_of views) places i n p c.loop-i.leaders.items c.set_leader.new.leaders.items (omega (arith, in_items, sections_wide items)) in_places
    (section_is items i c.index-items-i.result in_items) refl
    (c.set_leader.ensures ∙ ap (λ s. set c.loop-i.leaders.items n (Some s)) c.section_at-leader.ensures)
    ∙ c.loop-i.invariant

pub returns : goal.returns
unfolding folded_leaders
returns c =
    let items = c.args.items.now in
    let views = item_views items in
    sym (fold_end views (map section_of views) c.args.places.now c.loop-i.i c.loop-i.leaders.items
    (past_one (map section_of views) c.args.places.now (length items) c.loop-i.i (sections_wide items) (omega (arith, c.loop-i-test.false, c.min-i-end.ensures))))
    ∙ c.loop-i.invariant
