use Rattle.std.proofs.Common.{◌≡◌, ◌≤◌, ◌==◌, length, sym, ap, if◌then◌else◌, arith, rules}
use Rattle.std.proofs.lemmas.List.{get_or_past, length-map}
use Rattle.lk_base.specs.declared.abi.TheConstants.{STB_LOCAL}
use Rattle.lk_tables.specs.declared.bounds.Bound.{Bound}
use Rattle.lk_tables.specs.BindingView.{binding_view}
use Rattle.lk_tables.specs.FileView.{file_view}
use Rattle.lk_tables.specs.Files.{File, file_at, no_file, symbol_at, symbol_no}
use Rattle.lk_tables.specs.TablesView.{files_of}
use Rattle.lk_tables.specs.Targets.{bound, bound_by, defined_by, definition, rank_at}
use Rattle.lk_tables.proofs.binding.Binding.bound.Goals as goal

pub returns-in_default : goal.returns-in_default
unfolding bound definition
returns-in_default c =
    let files = files_of c.args.tables.now in
    let b = binding_view c.args.self.now in
    let f = c.args.file in
    let i = c.args.symbol in
    let past : length c.files.result.now ≤ f = search rules in
    let none : file_at files f ≡ no_file = get_or_past files f no_file (omega (arith, ap length c.files.ensures, length-map c.files.result.now file_view)) in
    let P : File → Bound = λ x.
    if (symbol_at x i).binding == STB_LOCAL then defined_by files b (symbol_at x i).place f i (symbol_at x i) else bound_by files b (rank_at b (symbol_no files f i)) in
    sym (ap P none)
