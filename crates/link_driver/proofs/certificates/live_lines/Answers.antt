use Rattle.std.proofs.Common.{◌<◌, ◌∙◌, Option, ℕ, sym, subst}
use Rattle.std.specs.Option.{option_map}
use Rattle.std.specs.Prelude.{IfSome}
use Rattle.link_command.specs.Command.{lists_of}
use Rattle.lk_tables.specs.BindingView.{binding_view}
use Rattle.lk_tables.specs.Files.{section_total}
use Rattle.lk_tables.specs.TablesView.{files_of}
use Rattle.why_chain.specs.Walks.{sections_in}
use Rattle.link_passes.specs.Contents.{names_of}
use Rattle.link_driver.proofs.Certifying.{no_target, target_is}
use Rattle.link_passes.proofs.Handing.{on_each}
use Rattle.link_driver.proofs.certificates.live_lines.Goals as goal

pub returns-in_default : goal.returns-in_default
returns-in_default g c =
    on_each c.name_line.result (λ text is.
    is ∙ no_target (names_of c.args.names.now) (files_of c.args.tables.now) (binding_view c.args.binding.now) c.args.name.now (lists_of c.args.undefined.now)
    (sym c.in_default.is ∙ c.in_ok-section.ensures.section)) c.name_line.ensures

pub find_walk_by-requires-clause-target : goal.find_walk_by-requires-clause-target
find_walk_by-requires-clause-target g c = λ κs bound.
    let P : Option ℕ → Type 0 = λ o. IfSome o (λ s. s < section_total (files_of c.args.tables.now)) in
    subst P c.in-Some.is c.in_ok-section.ensures.within

pub returns : goal.returns
returns g c =
    on_each c.walk_text.result (λ text is.
    is ∙ target_is (names_of c.args.names.now) (files_of c.args.tables.now) (binding_view c.args.binding.now) c.args.name.now (lists_of c.args.undefined.now) c.in-Some.target
    (option_map sections_in c.in_ok-walk.walk) c.in_ok-walk.ensures.walk (sym c.in-Some.is ∙ c.in_ok-section.ensures.section)) c.walk_text.ensures
