-- The parts of the first value of the option, by clap's rows.
use Rattle.std.proofs.Common.{◌∙◌, ap, []}
use Rattle.std.specs.Option.{option_map_or}
use Rattle.std.proofs.lemmas.Result.{IfOk-weaker}
use Rattle.clap.specs.Words.{found_of}
use Rattle.clap.proofs.WalkLemmas.{first_value-rows}
use Rattle.link_command.specs.Command.{parts_of}
use Rattle.link_command.proofs.values.names_of.Goals as goal

pub returns-in_default : goal.returns-in_default
returns-in_default c =
    let is = ap (λ o. option_map_or parts_of o []) (c.in_default.ensures ∙ first_value-rows (found_of c.args.matches.now) c.args.id.now) in
    rw c.new.ensures.items is

pub returns : goal.returns
returns c =
    let is = ap (λ o. option_map_or parts_of o []) (c.in-Some.ensures ∙ first_value-rows (found_of c.args.matches.now) c.args.id.now) in
    IfOk-weaker c.parts_of.result _ _ (λ names h. h ∙ ap parts_of c.as_bytes.ensures.value ∙ is) c.parts_of.ensures
