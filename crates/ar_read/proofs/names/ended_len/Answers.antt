use Rattle.ar_read.proofs.Texts.{ended_is}
use Rattle.ar_read.proofs.names.ended_len.Goals as goal

pub returns-clause-value : goal.returns-clause-value
returns-clause-value c = ended_is c.args.text.now c.find.result c.find.ensures
