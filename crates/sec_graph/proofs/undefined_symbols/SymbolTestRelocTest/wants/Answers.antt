use Rattle.lk_tables.specs.BindingView.{binding_view}
use Rattle.lk_tables.specs.TablesView.{files_of}
use Rattle.sec_graph.proofs.Unbound.{none_in}
use Rattle.sec_graph.proofs.undefined_symbols.SymbolTestRelocTest.wants.Goals as goal

pub returns : goal.returns
returns c = λ none.
    none_in (files_of c.args.self.now.tables.now) (binding_view c.args.self.now.binding.now) c.args.self.now.kept.now c.args.file (c.has_undefined.ensures none)
