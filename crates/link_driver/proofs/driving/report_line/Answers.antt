use Rattle.link_driver.proofs.Starting.{told_so}
use Rattle.link_driver.proofs.driving.report_line.Goals as goal

pub returns-clause-reported : goal.returns-clause-reported
returns-clause-reported g c =
    told_so c.say_all.result c.args.line.now (g.E.Sink.output c.args.err.now) (g.E.Sink.output c.say_all.new.sink)
    c.say_all.ensures.ok c.say_all.ensures.err c.say_all.ensures.cause
