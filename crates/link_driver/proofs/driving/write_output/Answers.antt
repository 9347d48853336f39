use Rattle.std.proofs.lemmas.Result.{on_ok_weaker, on_err_weaker}
use Rattle.lk_depot.specs.declared.kinds.FileKind.TheVariants.{Executable}
use Rattle.link_driver.proofs.WrittenFiles.{whole_behind, cut_behind}
use Rattle.link_driver.proofs.driving.write_output.Goals as goal

pub returns-clause-files : goal.returns-clause-files
returns-clause-files g c =
    on_ok_weaker c.write_exe.result
    (whole_behind c.args.name.now c.args.linked.now.exe _ (g.D.Depot.store c.begin.new.self).files _ c.in_ok-begin.ensures.files)
    c.write_exe.ensures.ok

pub returns-clause-cut : goal.returns-clause-cut
returns-clause-cut g c =
    on_err_weaker c.write_exe.result
    (cut_behind (g.D.Depot.store c.args.depot.now) (g.D.Depot.store c.begin.new.self) (g.D.Depot.store c.write_exe.new.depot) c.args.name.now
    c.args.linked.now.exe Executable c.in_ok-begin.ensures.files c.in_ok-begin.ensures.kinds c.write_exe.ensures.kinds)
    c.write_exe.ensures.err
