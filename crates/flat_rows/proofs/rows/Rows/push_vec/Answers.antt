use Rattle.std.proofs.Common.{◌∷◌, ◌++◌, [], ap, sym, ◌∙◌, arith}
use Rattle.flat_rows.specs.Laid.{rows_in}
use Rattle.flat_rows.proofs.Laying.{laid_in, laid_push, none_before, view_is_rows}
use Rattle.flat_rows.proofs.rows.Rows.push_vec.Goals as goal

pub invariant_of-self-2 : goal.invariant_of-self-2
invariant_of-self-2 g c =
    let old = c.self.inside in
    let now = c.self-2.inside in
    let rows = rows_in now.firsts.items now.items.items in
    let row = c.args.row in
    let first = none_before (rows_in old.firsts.items old.items.items) rows old.firsts.items now.firsts.items old.items.items now.items.items row.items c.len.result c.self.invariant c.self-2.invariant
    (c.self.view_is ∙ sym c.self-2.view_is) (c.len.ensures ∙ old.items.ok.0) (omega (arith, c.if-len-ne0.false)) in
    let laid = laid_push rows row.items now.firsts.items c.reserve.new.self.items c.push-2.new.self.items now.items.items row.items c.len-end.result c.self-2.invariant
    c.in_ok-reserve.ensures.items c.in_ok-push.ensures.items (c.len-end.ensures ∙ row.ok.0) first in
    laid_in (rows ++ row.items ∷ []) c.push-2.new.self.items row.items laid

pub returns-clause-ok : goal.returns-clause-ok
returns-clause-ok g c =
    let old = c.self.inside in
    let now = c.self-2.inside in
    let rows = rows_in now.firsts.items now.items.items in
    let row = c.args.row in
    let first = none_before (rows_in old.firsts.items old.items.items) rows old.firsts.items now.firsts.items old.items.items now.items.items row.items c.len.result c.self.invariant c.self-2.invariant
    (c.self.view_is ∙ sym c.self-2.view_is) (c.len.ensures ∙ old.items.ok.0) (omega (arith, c.if-len-ne0.false)) in
    let laid = laid_push rows row.items now.firsts.items c.reserve.new.self.items c.push-2.new.self.items now.items.items row.items c.len-end.result c.self-2.invariant
    c.in_ok-reserve.ensures.items c.in_ok-push.ensures.items (c.len-end.ensures ∙ row.ok.0) first in
    view_is_rows (rows ++ row.items ∷ []) c.push-2.new.self.items row.items laid ∙ ap (λ l. l ++ row.items ∷ []) c.self-2.view_is
