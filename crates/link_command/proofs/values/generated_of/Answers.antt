-- `get_one` reads the number that clap let pass, if there is one.
use Rattle.std.proofs.Common.{arith, codes}
use Rattle.clap.specs.Words.{found_of}
use Rattle.std.specs.Str.Parse.{ParsesUnsigned, ExplainsUnsignedError, HasUnsignedDigitsIfOk}
use Rattle.link_command.proofs.Reading.{numbers_read}
use Rattle.link_command.proofs.values.generated_of.Goals as goal

pub returns-clause-number : goal.returns-clause-number
returns-clause-number c =
    (numbers_read (λ bs r. ParsesUnsigned 32 10 bs r × ExplainsUnsignedError 10 bs r × HasUnsignedDigitsIfOk bs r)
    (found_of c.args.matches.now) (codes "self-input") 1 65536 c.get_one.result (omega arith) c.requires c.get_one.ensures.none c.get_one.ensures.value (λ u x g. g.0)).exact

pub returns-clause-range : goal.returns-clause-range
returns-clause-range c =
    (numbers_read (λ bs r. ParsesUnsigned 32 10 bs r × ExplainsUnsignedError 10 bs r × HasUnsignedDigitsIfOk bs r)
    (found_of c.args.matches.now) (codes "self-input") 1 65536 c.get_one.result (omega arith) c.requires c.get_one.ensures.none c.get_one.ensures.value (λ u x g. g.0)).range
