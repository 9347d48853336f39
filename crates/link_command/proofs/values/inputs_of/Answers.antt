-- The values of `files`, by clap's rows.
use Rattle.std.proofs.Common.{◌∙◌, Some, None, codes}
use Rattle.std.proofs.lemmas.Result.{IfOk-weaker}
use Rattle.clap.specs.Words.{found_of}
use Rattle.link_command.proofs.Reading.{values_or_none}
use Rattle.link_command.proofs.values.inputs_of.Goals as goal

pub returns-in-Some : goal.returns-in-Some
returns-in-Some c =
    let is = values_or_none (found_of c.args.matches.now) (codes "files") (Some c.in-Some.names) c.in-Some.ensures in
    IfOk-weaker c.owned.result _ _ (λ inputs h. h ∙ is) c.owned.ensures

pub returns-in-None : goal.returns-in-None
returns-in-None c =
    let is = values_or_none (found_of c.args.matches.now) (codes "files") None c.in-None.ensures in
    rw c.new.ensures.items is
