use Rattle.std.proofs.Common.{length, arith}
use Rattle.std.proofs.lemmas.Result.{on_ok_weaker, on_err_weaker}
use Rattle.link_driver.proofs.BlockWise.{cut_of, whole_of}
use Rattle.link_driver.proofs.linked.write_window.Goals as goal

pub returns-clause-ok : goal.returns-clause-ok
returns-clause-ok g c =
    on_ok_weaker c.put_blocks.result (whole_of c.args.name.now _ _ (g.D.Depot.store c.args.depot.now).files _ c.fill_from.ensures) c.put_blocks.ensures.ok

pub returns-clause-err : goal.returns-clause-err
returns-clause-err g c =
    on_err_weaker c.put_blocks.result
    (cut_of c.args.name.now _ _ (length c.args.window.now) (g.D.Depot.store c.args.depot.now).files _ c.fill_from.ensures (omega arith)) c.put_blocks.ensures.err
