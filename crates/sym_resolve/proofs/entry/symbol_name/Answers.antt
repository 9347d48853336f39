use Rattle.std.proofs.Common.{◌≡◌, ◌≤◌, length, sym, ap, ◌∙◌, arith}
use Rattle.std.proofs.lemmas.Bool.{ltb-false}
use Rattle.std.proofs.lemmas.List.{length-map}
use Rattle.lk_tables.specs.FileView.{file_view}
use Rattle.lk_tables.specs.TablesView.{files_of}
use Rattle.sym_resolve.proofs.NamedRanks.{past_name}
use Rattle.sym_resolve.proofs.entry.symbol_name.Goals as goal

pub returns-in-None : goal.returns-in-None
returns-in-None c =
    let files = files_of c.args.tables.now in
    let looked = c.in-None.ensures in
    let out : length c.files.result.now ≤ c.args.file = ltb-false c.args.file (length c.files.result.now) (sym looked.lookup.0) in
    let long : length c.files.result.now ≡ length files = sym (length-map c.files.result.now file_view) ∙ ap length c.files.ensures in
    let past : length files ≤ c.args.file = omega arith in
    sym (past_name files c.args.file c.args.symbol past)
