use Rattle.link_command.specs.Command.{texts_of}
use Rattle.link_driver.proofs.Promising.{promises_hold}
use Rattle.link_driver.specs.Endings.{reported_line}
use Rattle.link_driver.proofs.driving.run.Goals as goal

pub returns : goal.returns
returns g c = record {
  ends = record {
    line = reported_line c.run_command-ending.result;
    ends = rw c.status.ensures c.run_command-ending.ensures.ends;
    one_line = rw c.status.ensures c.line.ensures.one;
    reported = rw c.line.ensures.value at c.report_line.ensures.reported;
    silent = rw c.line.ensures.value at c.report_line.ensures.silent;
    faults = c.run_command-ending.ensures.faults;
    begun = c.run_command-ending.ensures.begun;
    say_faults = c.run_command-ending.ensures.say_faults;
    err_faults = c.report_line.ensures.faults;
  };
  promises =
      promises_hold (texts_of c.args.words.now) _ _ _ _ c.status.result (reported_line c.run_command-ending.result)
      (rw c.status.ensures c.run_command-ending.ensures.ends);
}
