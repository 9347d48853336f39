use Rattle.std.proofs.Common.{◌∙◌, List, ℕ, ap, subst, sym}
use Rattle.std.specs.Prelude.{IfSome}
use Rattle.link_command.specs.Command.{command_view, lists_of}
use Rattle.lk_tables.specs.BindingView.{binding_view}
use Rattle.lk_tables.specs.TablesView.{files_of}
use Rattle.link_driver.specs.Certificates.{apart_text, live_text}
use Rattle.link_passes.specs.Contents.{names_of}
use Rattle.link_passes.specs.Tables.{IsGraph}
use Rattle.link_driver.proofs.Certifying.{why_is}
use Rattle.link_driver.proofs.certificates.why_text.Goals as goal

pub live_text-requires-clause-graph : goal.live_text-requires-clause-graph
live_text-requires-clause-graph g c = λ κs bound.
    let P : List (List ℕ) → Type 0 = λ u. IfSome c.args.graph.now (IsGraph (files_of c.args.tables.now) (binding_view c.args.binding.now) u) in
    subst P (sym (ap lists_of c.as_slice.ensures.value)) c.requires.graph

pub returns : goal.returns
returns g c =
    let asked = command_view c.args.command.now in
    let names = names_of c.args.names.now in
    let files = files_of c.args.tables.now in
    let b = binding_view c.args.binding.now in
    let kept = c.args.kept.now in
    let barred = c.args.barred.now in
    let live = c.in_ok-text.ensures ∙ ap (λ u. live_text names files b u asked.why_live) (ap lists_of c.as_slice.ensures.value) in
    let apart = c.as_slice-3.ensures.value ∙ c.in_ok-apart.ensures ∙ ap (λ u. apart_text names files b kept barred u) (ap lists_of c.as_slice-2.ensures.value) in
    why_is asked names files b kept barred c.in_ok-text.text.items c.as_slice-3.result.now c.extend_from_slice.new.self.items (sym c.asks_why.ensures ∙ c.if-not-asks_why.false) live apart
    c.in_ok-extend_from_slice.ensures.items
