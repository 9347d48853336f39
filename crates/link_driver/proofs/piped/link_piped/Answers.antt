use Rattle.std.proofs.Common.{◌∙◌, List, ℕ, ap, sym, subst}
use Rattle.std.specs.Prelude.{Some, string_bytes}
use Rattle.std.proofs.lemmas.List.{length-map}
use Rattle.lk_depot.specs.Loading.{AreContents}
use Rattle.link_command.specs.Command.{command_view, texts_of}
use Rattle.link_passes.specs.Contents.{contents_of}
use Rattle.link_passes.specs.Given.{contents_by, names_by}
use Rattle.link_driver.specs.Ends.{none_failed}
use Rattle.link_driver.proofs.KnownHeads.{all_piped, known_heads, piped_many}
use Rattle.link_driver.proofs.Starting.{lacking, not_loaded}
use Rattle.link_driver.proofs.piped.link_piped.Goals as goal

pub returns-in-Err-clause-ends : goal.returns-in-Err-clause-ends
returns-in-Err-clause-ends g c =
    not_loaded (command_view c.args.command.now) (texts_of c.args.names.now) (g.D.Depot.store c.args.depot.now) (g.D.Depot.store c.read_piped.new.depot)
    (g.S.Sink.output c.args.say.now) c.in-Err.stop c.report_load_stop.result c.requires.names c.in-Err.ensures.loads
    (record { files = c.in-Err.ensures.files; kinds = c.in-Err.ensures.kinds; begun = c.in-Err.ensures.begun })
    c.report_load_stop.ensures

pub take_apart-requires : goal.take_apart-requires
take_apart-requires g c = all_piped c.args.command.now.threads c.in-Ok.piped.files.items c.in-Ok.ensures.read

pub returns-in_default-clause-ends : goal.returns-in_default-clause-ends
returns-in_default-clause-ends g c =
    lacking (Some (command_view c.args.command.now)) (g.D.Depot.store c.args.depot.now) (g.D.Depot.store c.read_piped.new.depot) (g.S.Sink.output c.args.say.now)
    (record { files = c.in-Ok.ensures.files; kinds = c.in-Ok.ensures.kinds; begun = c.in-Ok.ensures.begun })
    (none_failed c.in-Ok.ensures.loads.1)

pub inputs_of-requires : goal.inputs_of-requires
inputs_of-requires g c = piped_many _ _ _ _ c.in-Ok.ensures.loads.0 c.in-Ok-take_apart.ensures.contents ∙ length-map c.args.names.now string_bytes

pub returns-in_default-inputs_of-clause-ends : goal.returns-in_default-inputs_of-clause-ends
returns-in_default-inputs_of-clause-ends g c =
    lacking (Some (command_view c.args.command.now)) (g.D.Depot.store c.args.depot.now) (g.D.Depot.store c.read_piped.new.depot) (g.S.Sink.output c.args.say.now)
    (record { files = c.in-Ok.ensures.files; kinds = c.in-Ok.ensures.kinds; begun = c.in-Ok.ensures.begun })
    (none_failed c.in-Ok.ensures.loads.1)

pub link_inputs-ending-requires-clause-known : goal.link_inputs-ending-requires-clause-known
link_inputs-ending-requires-clause-known g c = λ κs bound.
    known_heads c.known_if-known.result c.in-Ok-take_apart.apart.sound c.in-Ok-take_apart.apart.heads.items _ _ (c.in-Ok-inputs_of.ensures.contents ∙ c.in-Ok-take_apart.ensures.contents) c.in-Ok-take_apart.ensures.heads c.known_if-known.ensures

pub link_inputs-ending-requires-clause-names : goal.link_inputs-ending-requires-clause-names
link_inputs-ending-requires-clause-names g c = λ κs bound.
    let asked = command_view c.args.command.now in
    c.in-Ok-inputs_of.ensures.names ∙ c.requires.names ∙ sym (ap (λ n. names_by n asked.inputs) c.requires.files)

pub returns-clause-ends : goal.returns-clause-ends
returns-clause-ends g c =
    let before = g.D.Depot.store c.args.depot.now in
    let given = contents_of c.in-Ok-take_apart.apart.contents.items in
    let P : List (List ℕ) → Type 0 = λ names. AreContents before.files names given in
    let Q : List (List ℕ) → Type 0 = λ contents. AreContents before.files (texts_of c.args.names.now) contents in
    c.link_inputs-ending.ensures.ends before given (record {
      loaded = subst P c.requires.names (subst Q (sym c.in-Ok-take_apart.ensures.contents) c.in-Ok.ensures.loads.0);
      unread = c.in-Ok.ensures.loads.1;
      untouched = record { files = c.in-Ok.ensures.files; kinds = c.in-Ok.ensures.kinds; begun = c.in-Ok.ensures.begun };
      faults = c.in-Ok.ensures.later;
    }) (c.in-Ok-inputs_of.ensures.contents ∙ sym (ap (λ n. contents_by n given) c.requires.files))
