use Rattle.lk_base.proofs.EscapedNames.{name_recoverable}
use Rattle.lk_base.proofs.ShownBytes.{bytes_from}
use Rattle.lk_base.proofs.lines.push_escaped.Goals as goal

pub returns-then-is_err-clause-recoverable : goal.returns-then-is_err-clause-recoverable
returns-then-is_err-clause-recoverable c = name_recoverable c.args.name.now (bytes_from c.args.name.now c.type_inv.name)

pub returns-else-is_err-clause-recoverable : goal.returns-else-is_err-clause-recoverable
returns-else-is_err-clause-recoverable c = name_recoverable c.args.name.now (bytes_from c.args.name.now c.type_inv.name)
