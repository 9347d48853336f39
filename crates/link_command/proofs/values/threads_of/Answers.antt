-- `get_one` reads the number that clap let pass.
use Rattle.std.proofs.Common.{◌∙◌, arith, codes}
use Rattle.clap.specs.Words.{found_of}
use Rattle.std.specs.Str.Parse.{ParsesUnsigned, ExplainsUnsignedError, HasUnsignedDigitsIfOk}
use Rattle.link_command.specs.Grammar.{rows_in}
use Rattle.link_command.proofs.Reading.{number_read, workers_are}
use Rattle.link_command.proofs.values.threads_of.Goals as goal

pub returns-clause-number : goal.returns-clause-number
returns-clause-number c =
    let read = number_read (λ bs r. ParsesUnsigned 32 10 bs r × ExplainsUnsignedError 10 bs r × HasUnsignedDigitsIfOk bs r)
    (found_of c.args.matches.now) (codes "threads") 1 64 c.get_one.result (omega arith) c.requires c.get_one.ensures.value (λ u x g. g.0) in
    c.unwrap_or.ensures ∙ workers_are (rows_in c.args.matches.now) c.get_one.result read

pub returns-clause-least : goal.returns-clause-least
returns-clause-least c =
    let read = number_read (λ bs r. ParsesUnsigned 32 10 bs r × ExplainsUnsignedError 10 bs r × HasUnsignedDigitsIfOk bs r)
    (found_of c.args.matches.now) (codes "threads") 1 64 c.get_one.result (omega arith) c.requires c.get_one.ensures.value (λ u x g. g.0) in
    rw (c.unwrap_or.ensures, read.is) read.low

pub returns-clause-most : goal.returns-clause-most
returns-clause-most c =
    let read = number_read (λ bs r. ParsesUnsigned 32 10 bs r × ExplainsUnsignedError 10 bs r × HasUnsignedDigitsIfOk bs r)
    (found_of c.args.matches.now) (codes "threads") 1 64 c.get_one.result (omega arith) c.requires c.get_one.ensures.value (λ u x g. g.0) in
    rw (c.unwrap_or.ensures, read.is) read.high
