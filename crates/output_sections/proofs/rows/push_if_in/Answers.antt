use Rattle.std.proofs.Common.{sym, ap, ◌∙◌, ◌++◌}
use Rattle.std.proofs.lemmas.List.{append-nil}
use Rattle.output_sections.specs.Heads.{head_in}
use Rattle.output_sections.specs.ItemViews.{item_view}
use Rattle.output_sections.proofs.RowSteps.{last_pushed, own_none}
use Rattle.output_sections.proofs.rows.push_if_in.Goals as goal

pub returns-then-not-is_in-clause-rows : goal.returns-then-not-is_in-clause-rows
returns-then-not-is_in-clause-rows c =
    sym (append-nil c.args.rows.now.items)
    ∙ ap (λ l. c.args.rows.now.items ++ l) (own_none c.args.class (head_in c.args.heads.now) c.args.number (item_view c.args.item.now) (sym c.is_in.ensures ∙ c.if-not-is_in.true))

pub returns-clause-rows : goal.returns-clause-rows
returns-clause-rows c =
    last_pushed c.args.class c.args.heads.now c.turn_to-last.result c.args.number (item_view c.args.item.now) c.args.rows.now.items c.push_row.new.rows.items
    (sym c.is_in.ensures ∙ c.if-not-is_in.false) c.turn_to-last.ensures.held (c.turn_to-last.ensures.name ∙ c.output_name.ensures) c.in_ok-push_row.ensures
