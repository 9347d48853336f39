use Rattle.std.proofs.Common.{◌≡◌, Some, rules}
use Rattle.lk_tables.specs.BindingView.{binding_view}
use Rattle.lk_tables.specs.LinkerSymbols.{first_named}
use Rattle.lk_tables.specs.TablesView.{files_of}
use Rattle.sym_resolve.proofs.NamedSections.{first_below}
use Rattle.sym_resolve.proofs.linker.section_of.Goals as goal

pub returns-in-Some-get-clause-few : goal.returns-in-Some-get-clause-few
returns-in-Some-get-clause-few c =
    let files = files_of c.args.tables.now in
    let b = binding_view c.args.binding.now in
    let is : Some c.in-Some-get.section.now ≡ first_named files b c.in-Some.text.now = search rules in
    first_below files b c.in-Some.text.now c.in-Some-get.section.now c.prove_few.ensures is
