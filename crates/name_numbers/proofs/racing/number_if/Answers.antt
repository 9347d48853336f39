use Rattle.std.proofs.Common.{ℕ, length, subst}
use Rattle.std.specs.Prelude.{Option, IfSome}
use Rattle.std.specs.Global.{Vec}
use Rattle.name_numbers.specs.Placed.{IsReady}
use Rattle.name_numbers.proofs.racing.number_if.Goals as goal

pub number_all-requires-clause-ready : goal.number_all-requires-clause-ready
number_all-requires-clause-ready g c κs bound =
    let P : Option (Vec (Vec ℕ)) → Type 0 = λ found. IfSome found (λ lists. IsReady c.args.table.now (length c.args.texts.now) c.args.cuts.now c.args.seat.now lists.items) in
    subst P c.in-Some.is c.requires.found
