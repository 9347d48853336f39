-- The first value, by clap's rows.
use Rattle.std.proofs.Common.{refl}
use Rattle.clap.specs.Words.{found_of}
use Rattle.link_command.proofs.Reading.{text_is}
use Rattle.link_command.proofs.values.text_of.Goals as goal

pub returns : goal.returns
returns c =
    text_is (found_of c.args.matches.now) c.args.id.now c.get_str.result _ c.unwrap_or.result c.get_str.ensures refl c.unwrap_or.ensures
