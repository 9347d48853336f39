use Rattle.std.proofs.Common.{◌∷◌, ◌++◌, [], ap, ◌∙◌}
use Rattle.flat_rows.specs.Laid.{rows_in}
use Rattle.flat_rows.proofs.Laying.{laid_in, laid_push, view_is_rows}
use Rattle.flat_rows.proofs.rows.Rows.push.Goals as goal

pub invariant_of-self-2 : goal.invariant_of-self-2
invariant_of-self-2 g c =
    let old = c.self.inside in
    let items = c.extend_from_slice.new.self in
    laid_in (rows_in old.firsts.items old.items.items ++ c.args.row.now ∷ []) c.push.new.self.items items.items
    (laid_push _ c.args.row.now old.firsts.items c.reserve.new.self.items c.push.new.self.items old.items.items items.items c.len.result c.self.invariant
    c.in_ok-reserve.ensures.items c.in_ok-push.ensures.items (c.len.ensures ∙ items.ok.0) c.in_ok-extend_from_slice.ensures.items)

pub returns-clause-ok : goal.returns-clause-ok
returns-clause-ok g c =
    let old = c.self.inside in
    let items = c.extend_from_slice.new.self in
    view_is_rows (rows_in old.firsts.items old.items.items ++ c.args.row.now ∷ []) c.push.new.self.items items.items
    (laid_push _ c.args.row.now old.firsts.items c.reserve.new.self.items c.push.new.self.items old.items.items items.items c.len.result c.self.invariant
    c.in_ok-reserve.ensures.items c.in_ok-push.ensures.items (c.len.ensures ∙ items.ok.0) c.in_ok-extend_from_slice.ensures.items)
    ∙ ap (λ l. l ++ c.args.row.now ∷ []) c.self.view_is
