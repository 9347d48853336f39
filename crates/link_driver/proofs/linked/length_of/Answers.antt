use Rattle.std.proofs.Common.{◌∙◌, sym, arith}
use Rattle.link_driver.proofs.BlockWise.{exe_long}
use Rattle.link_driver.proofs.linked.length_of.Goals as goal

pub returns-clause-value : goal.returns-clause-value
returns-clause-value c = c.file_length.ensures ∙ sym (exe_long c.args.executable.now)

pub returns-clause-low : goal.returns-clause-low
returns-clause-low c = omega (arith, c.file_length.ensures, c.args.executable.now.ready.ends.small)
