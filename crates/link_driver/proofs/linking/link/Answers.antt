use Rattle.link_command.specs.Command.{command_view}
use Rattle.link_passes.specs.Contents.{input_contents, input_names}
use Rattle.link_passes.specs.Sources.{shown_files, sources}
use Rattle.link_driver.proofs.AtStops.{ends_for_memory}
use Rattle.link_driver.proofs.Laws.{are_least}
use Rattle.link_driver.proofs.linking.link.Goals as goal

pub returns-in_err-sources-clause-after : goal.returns-in_err-sources-clause-after
returns-in_err-sources-clause-after g c =
    let ss = sources c.args.limits.now (input_contents c.args.inputs.now) in
    ends_for_memory c.args.limits.now c.requires.limits (command_view c.args.command.now) ss (shown_files (input_names c.args.inputs.now) (input_contents c.args.inputs.now) ss)
    c.from_residual.result c.from_residual.ensures.1

pub returns-in_err-sources-clause-least : goal.returns-in_err-sources-clause-least
returns-in_err-sources-clause-least g c = λ few. are_least (command_view c.args.command.now) (sources c.args.limits.now (input_contents c.args.inputs.now)) few

pub returns-clause-least : goal.returns-clause-least
returns-clause-least g c = λ few. are_least (command_view c.args.command.now) (sources c.args.limits.now (input_contents c.args.inputs.now)) few
