use Rattle.std.proofs.Common.{◌≡◌, ◌∷◌}
use Rattle.layout.proofs.Splitting.{runs_first}
use Rattle.layout.proofs.walk.run_len.Goals as goal

pub returns-clause-value : goal.returns-clause-value
returns-clause-value c =
    let e : c.args.rows.now ≡ c.in-Some.first.now ∷ c.in-Some.rest.now = c.in-Some.ensures.cases.0 in
    rw e (runs_first c.in-Some.first.now c.in-Some.rest.now c.same_len.result c.same_len.ensures.value)
