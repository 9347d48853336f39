use Rattle.std.proofs.Common.{ap, ◌∙◌}
use Rattle.std.specs.Prelude.{Some}
use Rattle.link_command.specs.Command.{command_view}
use Rattle.link_passes.specs.Contents.{input_contents, input_names, sources_of}
use Rattle.link_driver.specs.Ends.{none_failed}
use Rattle.link_driver.proofs.KnownHeads.{known_sources}
use Rattle.link_driver.proofs.Starting.{is_linked, lacking, not_linked}
use Rattle.link_driver.proofs.driving.link_inputs.Goals as goal

pub returns-in_default-clause-ends : goal.returns-in_default-clause-ends
returns-in_default-clause-ends g c = λ before given loaded bytes.
    lacking (Some (command_view c.args.command.now)) before (g.D.Depot.store c.args.depot.now) (g.S.Sink.output c.args.say.now)
    loaded.untouched (none_failed loaded.unread)

pub link_sources-requires-clause-known : goal.link_sources-requires-clause-known
link_sources-requires-clause-known g c = λ κs bound.
    let found = rw c.standard-limits.ensures at c.in-Ok.ensures in
    known_sources c.args.known _ _ (ap sources_of c.as_slice-sources.ensures.value ∙ found) c.requires.known

pub returns-in-Err-clause-ends : goal.returns-in-Err-clause-ends
returns-in-Err-clause-ends g c = λ before given loaded bytes.
    let found = rw c.standard-limits.ensures at c.in-Ok.ensures in
    let stops = rw c.standard-limits.ensures at c.in-Err.ensures in
    not_linked (command_view c.args.command.now) before (g.D.Depot.store c.args.depot.now) (g.S.Sink.output c.args.say.now) given
    (input_contents c.args.inputs.now) (sources_of c.as_slice-sources.result.now) c.in-Err.stop c.report_stop.result loaded bytes
    (ap sources_of c.as_slice-sources.ensures.value ∙ found) stops.ends.first c.report_stop.ensures

pub returns-in_default-lines_for-clause-ends : goal.returns-in_default-lines_for-clause-ends
returns-in_default-lines_for-clause-ends g c = λ before given loaded bytes.
    lacking (Some (command_view c.args.command.now)) before (g.D.Depot.store c.args.depot.now) (g.S.Sink.output c.args.say.now)
    loaded.untouched (none_failed loaded.unread)

pub returns-clause-ends : goal.returns-clause-ends
returns-clause-ends g c = λ before given loaded bytes.
    let found = rw c.standard-limits.ensures at c.in-Ok.ensures in
    let links = rw c.standard-limits.ensures at c.in-Ok-link_sources.ensures in
    c.write_outputs-ending.ensures.ends before given (record {
      inputs_are = loaded;
      is_link = is_linked (command_view c.args.command.now) given (input_names c.args.inputs.now) (input_contents c.args.inputs.now)
          (sources_of c.as_slice-sources.result.now) c.in-Ok-link_sources.linked c.requires.names bytes (ap sources_of c.as_slice-sources.ensures.value ∙ found) links;
    }) c.in-Ok-lines_for.ensures
