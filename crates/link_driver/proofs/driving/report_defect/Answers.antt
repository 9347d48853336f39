use Rattle.link_command.specs.Command.{command_view}
use Rattle.link_passes.specs.Contents.{input_contents, sources_of}
use Rattle.link_driver.proofs.Starting.{line_is}
use Rattle.link_driver.proofs.driving.report_defect.Goals as goal

pub returns : goal.returns
returns c =
    line_is (command_view c.args.command.now) (input_contents c.args.inputs.now) (sources_of c.args.sources.now) c.args.defect.now c.in-Ok.line.bytes.items
    c.requires.sources c.in-Ok.ensures
