use Rattle.std.proofs.Common.{ap, arith, length}
use Rattle.flat_rows.proofs.Laying.{firsts_count}
use Rattle.flat_rows.proofs.rows.Rows.count.Goals as goal

pub returns : goal.returns
returns g c =
    let fields = c.self.inside in
    omega (arith, c.len.ensures, fields.firsts.ok.0, firsts_count _ fields.firsts.items fields.items.items c.self.invariant, ap length c.self.view_is)
