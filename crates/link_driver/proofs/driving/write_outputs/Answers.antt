use Rattle.std.proofs.Common.{◌≡◌, ◌∙◌, ℕ, List, ap, option_map, string_bytes, subst}
use Rattle.lk_depot.specs.Files.{put_if_seen}
use Rattle.lk_depot.specs.declared.kinds.FileKind.TheVariants.{Plain}
use Rattle.link_command.specs.Command.{command_view}
use Rattle.link_driver.specs.Endings.{AfterReport, map_line}
use Rattle.link_driver.specs.Ends.{IsCut}
use Rattle.link_driver.specs.Linked.{LinkedView}
use Rattle.link_driver.proofs.Finishing.{output_cut, reported, map_cut, without_map, with_that_map}
use Rattle.link_driver.proofs.driving.write_outputs.Goals as goal

pub returns-in-Err-clause-ends : goal.returns-in-Err-clause-ends
returns-in-Err-clause-ends g c = λ before inputs ready lines.
    output_cut (command_view c.args.command.now) before (g.D.Depot.store c.args.depot.now) (g.D.Depot.store c.write_output.new.depot) inputs
    c.args.linked.now (g.S.Sink.output c.args.say.now) _ ready
    (rw c.as_str-output.ensures.value at c.in-Err.ensures.cut)
    c.in-Err.ensures.begun c.in-Err.ensures.cause.failed c.in-Err.ensures.unread lines.output

pub returns-in_default-clause-ends : goal.returns-in_default-clause-ends
returns-in_default-clause-ends g c = λ before inputs ready lines.
    let none = ap (option_map (λ name. string_bytes name)) c.in_default.is in
    let said : c.report.result.now ≡ c.args.linked.now.report = c.report.ensures ∙ ap (λ (l : LinkedView). l.report) c.in-Ok.ensures.lists in
    let P : List ℕ → Type 0 = λ text. AfterReport text (g.S.Sink.output c.args.say.now) (g.S.Sink.output c.say_text.new.say) c.say_text.result in
    reported (command_view c.args.command.now) before (g.D.Depot.store c.args.depot.now) (g.D.Depot.store c.write_output.new.depot) inputs
    c.args.linked.now (g.S.Sink.output c.args.say.now) (g.S.Sink.output c.say_text.new.say) c.say_text.result ready
    (without_map _ _ _ _ none (rw c.as_str-output.ensures.value at c.in-Ok.ensures.files))
    (without_map _ _ _ _ none (rw c.as_str-output.ensures.value at c.in-Ok.ensures.kinds))
    c.in-Ok.ensures.unread
    (subst P said c.say_text.ensures.said)

pub returns-in-Err-write_file-clause-ends : goal.returns-in-Err-write_file-clause-ends
returns-in-Err-write_file-clause-ends g c = λ before inputs ready lines.
    let some = ap (option_map (λ name. string_bytes name)) c.in-Some.is in
    let shown : c.map.result.now ≡ c.args.linked.now.map = c.map.ensures ∙ ap (λ (l : LinkedView). l.map) c.in-Ok.ensures.lists in
    let P : List ℕ → Type 0 = λ bytes.
    IsCut (g.D.Depot.store c.write_output.new.depot) (g.D.Depot.store c.write_file.new.depot) (string_bytes c.in-Some.map) Plain bytes in
    map_cut (command_view c.args.command.now) before (g.D.Depot.store c.args.depot.now) (g.D.Depot.store c.write_output.new.depot)
    (g.D.Depot.store c.write_file.new.depot) inputs c.args.linked.now (string_bytes c.in-Some.map) (g.S.Sink.output c.args.say.now) _ ready some
    (rw c.as_str-output.ensures.value at c.in-Ok.ensures.files)
    (rw c.as_str-output.ensures.value at c.in-Ok.ensures.kinds)
    c.in-Ok.ensures.begun c.in-Ok.ensures.cause.later c.in-Ok.ensures.unread
    (subst P shown (rw c.as_str.ensures.value at c.in-Err-write_file.ensures.cut))
    c.in-Err-write_file.ensures.begun c.in-Err-write_file.ensures.cause.failed c.in-Err-write_file.ensures.unread
    (lines.map ∙ ap map_line some)

pub returns-clause-ends : goal.returns-clause-ends
returns-clause-ends g c = λ before inputs ready lines.
    let some = ap (option_map (λ name. string_bytes name)) c.in-Some.is in
    let shown : c.map.result.now ≡ c.args.linked.now.map = c.map.ensures ∙ ap (λ (l : LinkedView). l.map) c.in-Ok.ensures.lists in
    let said : c.report-2.result.now ≡ c.args.linked.now.report = c.report-2.ensures ∙ ap (λ (l : LinkedView). l.report) c.in-Ok.ensures.lists in
    let first = rw c.as_str-output.ensures.value at c.in-Ok.ensures.files in
    let kind = rw c.as_str-output.ensures.value at c.in-Ok.ensures.kinds in
    let next = rw c.as_str.ensures.value at c.in-Ok-write_file.ensures.files in
    let next_kind = rw c.as_str.ensures.value at c.in-Ok-write_file.ensures.kinds in
    let P : List ℕ → Type 0 = λ text. AfterReport text (g.S.Sink.output c.args.say.now) (g.S.Sink.output c.say_text-2.new.say) c.say_text-2.result in
    reported (command_view c.args.command.now) before (g.D.Depot.store c.args.depot.now) (g.D.Depot.store c.write_file.new.depot) inputs
    c.args.linked.now (g.S.Sink.output c.args.say.now) (g.S.Sink.output c.say_text-2.new.say) c.say_text-2.result ready
    (with_that_map _ _ _ _ _ some
    (next ∙ ap (λ bytes. put_if_seen (string_bytes c.in-Some.map) bytes (g.D.Depot.store c.write_output.new.depot).files) shown
    ∙ ap (put_if_seen (string_bytes c.in-Some.map) c.args.linked.now.map) first))
    (with_that_map _ _ _ _ _ some (next_kind ∙ ap (put_if_seen (string_bytes c.in-Some.map) Plain) kind))
    (c.in-Ok-write_file.ensures.unread ∙ c.in-Ok.ensures.unread)
    (subst P said c.say_text-2.ensures.said)
