use Rattle.std.proofs.Common.{◌≡◌, ℕ, ◌<◌, List, All, length, sym, subst, arith}
use Rattle.lk_tables.specs.BindingView.{binding_view}
use Rattle.lk_tables.specs.Files.{section_total}
use Rattle.lk_tables.specs.TablesView.{files_of}
use Rattle.asked_names.specs.AskedNames.{lists_of, named_sections, section_named}
use Rattle.asked_names.proofs.HavingNames.{collected}
use Rattle.asked_names.proofs.NameBounds.{named_within}
use Rattle.asked_names.proofs.sections.sections_of_names.Goals as goal

pub returns-clause-sections : goal.returns-clause-sections
unfolding named_sections
returns-clause-sections c =
    collected (section_named (files_of c.args.tables.now) (binding_view c.args.binding.now)) c.args.names.now c.loop-name.name-index c.loop-name.list.items _
    (omega (arith, c.loop-name-test.false)) c.loop-name.invariant

pub returns-clause-within : goal.returns-clause-within
unfolding named_sections
returns-clause-within c =
    let files = files_of c.args.tables.now in
    let b = binding_view c.args.binding.now in
    let names = lists_of c.args.names.now in
    let P : List ℕ → Type 0 = All (λ r. r < section_total files) in
    let all : c.loop-name.list.items ≡ named_sections files b names =
    collected (section_named files b) c.args.names.now c.loop-name.name-index c.loop-name.list.items (named_sections files b names)
    (omega (arith, c.loop-name-test.false)) c.loop-name.invariant in
    subst P (sym all) (named_within files b names c.requires c.prove_few.ensures)
