use Rattle.std.proofs.Common.{◌≡◌, length, ◌∙◌, arith}
use Rattle.std.proofs.lemmas.List.{length-map}
use Rattle.lk_tables.specs.FileView.{file_view}
use Rattle.lk_tables.specs.Files.{first_symbol}
use Rattle.lk_tables.specs.TablesView.{files_of}
use Rattle.lk_tables.proofs.FirstNumbers.{first_all, first_read, length_firsts}
use Rattle.lk_tables.proofs.tables.Tables.symbol_count.Goals as goal

pub index-requires : goal.index-requires
index-requires c =
    let s = c.args.self.now in
    omega (arith, length_firsts (first_symbol (files_of s)) s.first_symbols.items (length s.files.items) s.symbols, s.first_symbols.ok.0, s.files.ok.0)

pub returns : goal.returns
returns c =
    let s = c.args.self.now in
    let files = files_of s in
    let all : c.len.result ≡ length files = omega (arith, length-map s.files.items file_view, s.files.ok.0) in
    first_read (first_symbol files) s.first_symbols.items (length s.files.items) c.len.result c.index.result.now s.symbols (omega (arith, length-map s.files.items file_view)) c.index.ensures
    ∙ first_all files c.len.result all
