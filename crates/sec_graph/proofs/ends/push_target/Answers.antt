use Rattle.std.proofs.Common.{◌∙◌, sym}
use Rattle.lk_tables.specs.BindingView.{binding_view}
use Rattle.lk_tables.specs.Files.{file_at, symbol_at}
use Rattle.lk_tables.specs.TablesView.{files_of}
use Rattle.lk_tables.specs.Targets.{bound, spot_of}
use Rattle.sec_graph.specs.NamedSections.{IsKnown}
use Rattle.sec_graph.proofs.NamedLists.{asked_known, linker_bound}
use Rattle.sec_graph.proofs.ends.push_target.Goals as goal

pub push_bound-requires-clause-known : goal.push_bound-requires-clause-known
unfolding spot_of
push_bound-requires-clause-known c = λ bounds.
    let files = files_of c.args.tables.now in
    let b = binding_view c.args.binding.now in
    let f = c.args.file in
    let r = c.args.reloc.now in
    let n = c.in-Linker.number in
    asked_known files b (IsKnown files b c.args.named.now.names) f r.symbol n c.requires.named.known c.requires.file c.requires.live
    (linker_bound (bound files b f r.symbol) (file_at files f) (symbol_at (file_at files f) r.symbol) r n (sym c.spot_in.ensures ∙ c.in-Linker.is)) bounds
