use Rattle.std.proofs.Common.{IfOk, Contains, subst}
use Rattle.lk_tables.specs.Reach.{IsReach}
use Rattle.sec_gc.proofs.keeping.keep_shared.Goals as goal

pub close_rounds-requires-clause-rooted : goal.close_rounds-requires-clause-rooted
close_rounds-requires-clause-rooted g c κs within =
    λ f has. c.follow_by_all.ensures.keeps f (c.mark_roots.ensures.rooted f (subst (λ l. Contains l f) c.in_ok-marks.ensures.roots has))

pub returns : goal.returns
returns g c =
    let list = c.args.list.now in
    let result = c.close_rounds.result in
    let opened = c.in_ok-marks.ensures in
    subst (λ e. IfOk result (λ seen. IsReach list e seen.items)) opened.ends (subst (λ l. IfOk result (λ seen. IsReach l c.in_ok-marks.marks.ends seen.items)) opened.roots c.close_rounds.ensures)
