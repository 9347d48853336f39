use Rattle.std.proofs.Common.{ap, ◌∙◌, sym}
use Rattle.lk_base.specs.Order.{stable_order}
use Rattle.output_sections.specs.ItemViews.{items_view}
use Rattle.output_sections.specs.Order.{head_of, key_of}
use Rattle.output_sections.proofs.RowSteps.{no_rows}
use Rattle.output_sections.proofs.rows.class_rows.Goals as goal

pub returns-then-not-wanted : goal.returns-then-not-wanted
unfolding stable_order
returns-then-not-wanted c =
    let none = no_rows c.args.class (head_of c.args.class (items_view c.args.items.now)) 0 c.args.items.now (sym c.requires.wanted ∙ c.if-not-wanted.true) in
    c.new.ensures.items ∙ sym (ap (stable_order key_of) none)

pub returns : goal.returns
returns c = c.in_ok-sort_rows.ensures ∙ ap (stable_order key_of) c.in_ok-settle.ensures
