-- What clap says of the command, at the command line of rvld.
use Rattle.clap.specs.Words.{app_of}
use Rattle.link_command.specs.Command.{texts_of}
use Rattle.link_command.proofs.Parsing.{refused_words, taken_rows}
use Rattle.link_command.proofs.Numbers.{generated_given, workers_given}
use Rattle.link_command.proofs.matching.matches_of.Goals as goal

pub returns-in-Ok-clause-exact : goal.returns-in-Ok-clause-exact
returns-in-Ok-clause-exact c =
    taken_rows (app_of c.in_ok-command.command) (texts_of c.args.words.now) c.in-Ok.matches c.in_ok-command.ensures
    c.in-Ok.ensures.kinds c.in-Ok.ensures.matches

pub returns-in-Ok-clause-threads : goal.returns-in-Ok-clause-threads
returns-in-Ok-clause-threads c =
    workers_given c.in_ok-command.command c.in-Ok.matches c.in_ok-command.ensures c.in-Ok.ensures.parsed

pub returns-in-Ok-clause-generated : goal.returns-in-Ok-clause-generated
returns-in-Ok-clause-generated c =
    generated_given c.in_ok-command.command c.in-Ok.matches c.in_ok-command.ensures c.in-Ok.ensures.parsed

pub returns-clause-exact : goal.returns-clause-exact
returns-clause-exact c =
    refused_words (app_of c.in_ok-command.command) (texts_of c.args.words.now) c.kind.result c.in_ok-command.ensures
    (λ free. rw c.kind.ensures (c.in-Err.ensures.kinds free)) c.in_default.not-OutOfMemory
