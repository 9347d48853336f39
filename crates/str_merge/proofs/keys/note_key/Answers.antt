use Rattle.std.proofs.Common.{sym}
use Rattle.str_merge.proofs.KeyMaps.{noted_alike}
use Rattle.str_merge.proofs.keys.note_key.Goals as goal

pub returns-in_default-clause-notes : goal.returns-in_default-clause-notes
returns-in_default-clause-notes c = λ q. c.in_ok-insert.ensures.updates.0 q

pub returns-clause-notes : goal.returns-clause-notes
returns-clause-notes c = λ q. noted_alike c.args.known.now.entries c.args.key.now c.in-Some.first.now (sym c.in-Some.ensures.value) q
