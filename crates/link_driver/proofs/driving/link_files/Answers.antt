use Rattle.std.proofs.Common.{◌∙◌, List, ℕ, ap, sym, subst}
use Rattle.std.specs.Prelude.{Some}
use Rattle.lk_depot.specs.Loading.{AreContents}
use Rattle.link_command.specs.Command.{command_view, texts_of}
use Rattle.link_passes.specs.Contents.{contents_of}
use Rattle.link_passes.specs.Given.{contents_by, names_by}
use Rattle.link_driver.specs.Ends.{none_failed}
use Rattle.link_driver.proofs.Starting.{lacking, not_loaded}
use Rattle.link_driver.proofs.driving.link_files.Goals as goal

pub returns-in-Err-clause-ends : goal.returns-in-Err-clause-ends
returns-in-Err-clause-ends g c =
    not_loaded (command_view c.args.command.now) (texts_of c.args.names.now) (g.D.Depot.store c.args.depot.now) (g.D.Depot.store c.load_files.new.self)
    (g.S.Sink.output c.args.say.now) c.in-Err.stop c.report_load_stop.result c.requires.names c.in-Err.ensures.loads
    (record { files = c.in-Err.ensures.files; kinds = c.in-Err.ensures.kinds; begun = c.in-Err.ensures.begun })
    c.report_load_stop.ensures

pub returns-in_default-clause-ends : goal.returns-in_default-clause-ends
returns-in_default-clause-ends g c =
    lacking (Some (command_view c.args.command.now)) (g.D.Depot.store c.args.depot.now) (g.D.Depot.store c.load_files.new.self) (g.S.Sink.output c.args.say.now)
    (record { files = c.in-Ok.ensures.files; kinds = c.in-Ok.ensures.kinds; begun = c.in-Ok.ensures.begun })
    (none_failed c.in-Ok.ensures.loads.1)

pub link_inputs-ending-requires-clause-names : goal.link_inputs-ending-requires-clause-names
link_inputs-ending-requires-clause-names g c = λ κs bound.
    let asked = command_view c.args.command.now in
    c.in-Ok-inputs_of.ensures.names ∙ c.requires.names ∙ sym (ap (λ n. names_by n asked.inputs) c.requires.files)

pub returns-clause-ends : goal.returns-clause-ends
returns-clause-ends g c =
    let before = g.D.Depot.store c.args.depot.now in
    let given = contents_of c.in-Ok.contents.items in
    let P : List (List ℕ) → Type 0 = λ names. AreContents before.files names given in
    c.link_inputs-ending.ensures.ends before given (record {
      loaded = subst P c.requires.names c.in-Ok.ensures.loads.0;
      unread = c.in-Ok.ensures.loads.1;
      untouched = record { files = c.in-Ok.ensures.files; kinds = c.in-Ok.ensures.kinds; begun = c.in-Ok.ensures.begun };
      faults = c.in-Ok.ensures.later;
    }) (c.in-Ok-inputs_of.ensures.contents ∙ sym (ap (λ n. contents_by n given) c.requires.files))
