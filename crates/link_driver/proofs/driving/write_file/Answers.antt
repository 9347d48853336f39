use Rattle.std.proofs.lemmas.Result.{on_ok_weaker, on_err_weaker}
use Rattle.link_driver.proofs.WrittenFiles.{whole_behind, cut_behind}
use Rattle.link_driver.proofs.driving.write_file.Goals as goal

pub returns-clause-files : goal.returns-clause-files
returns-clause-files g c =
    on_ok_weaker c.put_all.result
    (whole_behind c.args.name.now c.args.bytes.now _ (g.D.Depot.store c.begin.new.self).files _ c.in_ok-begin.ensures.files)
    c.put_all.ensures.ok

pub returns-clause-cut : goal.returns-clause-cut
returns-clause-cut g c =
    on_err_weaker c.put_all.result
    (cut_behind (g.D.Depot.store c.args.depot.now) (g.D.Depot.store c.begin.new.self) (g.D.Depot.store c.put_all.new.depot) c.args.name.now
    c.args.bytes.now c.args.kind c.in_ok-begin.ensures.files c.in_ok-begin.ensures.kinds c.put_all.ensures.kinds)
    c.put_all.ensures.err
