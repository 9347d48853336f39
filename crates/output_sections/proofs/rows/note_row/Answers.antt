use Rattle.std.proofs.Common.{◌++◌, sym, ap, ◌∙◌}
use Rattle.std.proofs.lemmas.Bool.{and_parts}
use Rattle.std.proofs.lemmas.List.{append-nil}
use Rattle.output_sections.specs.Heads.{head_in, seen}
use Rattle.output_sections.specs.ItemViews.{item_view}
use Rattle.output_sections.proofs.HeadSteps.{passed}
use Rattle.output_sections.proofs.RowSteps.{last_pushed, own_none}
use Rattle.output_sections.proofs.rows.note_row.Goals as goal

pub returns-then-not-is_in-clause-noted : goal.returns-then-not-is_in-clause-noted
returns-then-not-is_in-clause-noted c = λ name.
    passed c.args.class (seen c.args.known.now.heads name) c.args.number (item_view c.args.item.now) name (sym c.is_in.ensures ∙ c.if-not-is_in.true)

pub returns-then-not-is_in-clause-pushed : goal.returns-then-not-is_in-clause-pushed
returns-then-not-is_in-clause-pushed c =
    sym (append-nil c.args.rows.now.items)
    ∙ ap (λ l. c.args.rows.now.items ++ l) (own_none c.args.class (head_in c.args.known.now.heads) c.args.number (item_view c.args.item.now) (sym c.is_in.ensures ∙ c.if-not-is_in.true))

pub returns-then-not-is_in-clause-settled : goal.returns-then-not-is_in-clause-settled
returns-then-not-is_in-clause-settled c = λ yes. (yes, λ name head was. was)

pub returns-clause-noted : goal.returns-clause-noted
returns-clause-noted c = c.in_ok-stayed.ensures.noted.noted

pub returns-clause-held : goal.returns-clause-held
returns-clause-held c = c.in_ok-stayed.ensures.noted.held

pub returns-clause-pushed : goal.returns-clause-pushed
returns-clause-pushed c =
    last_pushed c.args.class c.note_item.new.known.heads c.note_item.new.known.last c.args.number (item_view c.args.item.now) c.args.rows.now.items c.push_row.new.rows.items
    (sym c.is_in.ensures ∙ c.if-not-is_in.false) c.in_ok-stayed.ensures.noted.held c.in_ok-stayed.ensures.noted.name c.in_ok-push_row.ensures

pub returns-clause-settled : goal.returns-clause-settled
returns-clause-settled c = λ yes.
    let parts = and_parts c.args.settled c.in_ok-stayed.stayed yes in
    (parts.0, c.in_ok-stayed.ensures.settled parts.1)
