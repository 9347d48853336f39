use Rattle.std.proofs.Common.{[], ◌∙◌, ◌<◌, ◌+◌, ◌-◌, ap, arith, drop, get_or, length, take}
use Rattle.flat_rows.specs.Laid.{rows_in}
use Rattle.flat_rows.proofs.Laying.{firsts_count, read_past, read_row, read_within}
use Rattle.flat_rows.proofs.rows.Rows.row.Goals as goal

pub returns-then-n-firsts : goal.returns-then-n-firsts
returns-then-n-firsts g c =
    let fields = c.self.inside in
    let past = read_past (rows_in fields.firsts.items fields.items.items) c.args.self.now fields.firsts.items fields.items.items c.args.n _ c.self.invariant c.self.view_is
    (ap length c.as_slice-firsts.ensures.value) c.if-n-firsts.true in
    c.part.ensures ∙ past

pub part-requires-2-clause-order : goal.part-requires-2-clause-order
part-requires-2-clause-order g c =
    let fields = c.self.inside in
    let rows = rows_in fields.firsts.items fields.items.items in
    let count = firsts_count _ fields.firsts.items fields.items.items c.self.invariant in
    let firsts = c.as_slice-firsts.ensures.value in
    let lt : c.args.n < length rows = omega (arith, c.if-n-firsts.false, ap length firsts, count) in
    let within = read_within rows fields.firsts.items fields.items.items c.args.n c.self.invariant lt in
    omega (arith, within.0, ap (λ l. get_or l c.args.n 0) firsts, ap (λ l. get_or l (c.args.n + 1) 0) firsts)

pub part-requires-2-clause-within : goal.part-requires-2-clause-within
part-requires-2-clause-within g c =
    let fields = c.self.inside in
    let rows = rows_in fields.firsts.items fields.items.items in
    let count = firsts_count _ fields.firsts.items fields.items.items c.self.invariant in
    let firsts = c.as_slice-firsts.ensures.value in
    let lt : c.args.n < length rows = omega (arith, c.if-n-firsts.false, ap length firsts, count) in
    let within = read_within rows fields.firsts.items fields.items.items c.args.n c.self.invariant lt in
    omega (arith, within.1, ap (λ l. get_or l (c.args.n + 1) 0) firsts, ap length c.as_slice-items.ensures.value)

pub returns : goal.returns
returns g c =
    let fields = c.self.inside in
    let rows = rows_in fields.firsts.items fields.items.items in
    let count = firsts_count _ fields.firsts.items fields.items.items c.self.invariant in
    let firsts = c.as_slice-firsts.ensures.value in
    let n = c.args.n in
    let lt : n < length rows = omega (arith, c.if-n-firsts.false, ap length firsts, count) in
    c.part-2.ensures
    ∙ ap (λ l. take (get_or l (n + 1) 0 - get_or l n 0) (drop (get_or l n 0) c.as_slice-items.result.now)) firsts
    ∙ ap (λ l. take (get_or fields.firsts.items (n + 1) 0 - get_or fields.firsts.items n 0) (drop (get_or fields.firsts.items n 0) l)) c.as_slice-items.ensures.value
    ∙ read_row rows fields.firsts.items fields.items.items n c.self.invariant lt
    ∙ ap (λ l. get_or l n []) c.self.view_is
