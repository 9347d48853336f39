use Rattle.std.proofs.Common.{◌∙◌, [], ap, sym, refl}
use Rattle.std.specs.Prelude.{Some}
use Rattle.link_command.specs.Command.{command_view}
use Rattle.link_passes.specs.Given.{contents_by, names_by}
use Rattle.link_driver.specs.Ends.{none_failed}
use Rattle.link_driver.proofs.Starting.{lacking, nothing_loaded}
use Rattle.link_driver.proofs.driving.link_generated.Goals as goal

pub returns-in_default-clause-ends : goal.returns-in_default-clause-ends
returns-in_default-clause-ends g c =
    lacking (Some (command_view c.args.command.now)) (g.D.Depot.store c.args.depot.now) (g.D.Depot.store c.args.depot.now) (g.S.Sink.output c.args.say.now)
    (record { files = refl; kinds = refl; begun = refl }) (none_failed refl)

pub link_inputs-ending-requires-clause-names : goal.link_inputs-ending-requires-clause-names
link_inputs-ending-requires-clause-names g c = λ κs bound.
    let asked = command_view c.args.command.now in
    c.in-Ok.ensures.names ∙ sym (ap (λ n. names_by n asked.inputs) c.requires.generated)

pub returns-clause-ends : goal.returns-clause-ends
returns-clause-ends g c =
    let asked = command_view c.args.command.now in
    let before = g.D.Depot.store c.args.depot.now in
    c.link_inputs-ending.ensures.ends before [] (nothing_loaded asked before c.requires.files)
    (c.in-Ok.ensures.contents ∙ sym (ap (λ n. contents_by n []) c.requires.generated))
