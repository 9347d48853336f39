use Rattle.std.proofs.Common.{◌≡◌, ℕ, ◌<◌, false}
use Rattle.lk_tables.specs.BindingView.{binding_view}
use Rattle.lk_tables.specs.TablesView.{files_of}
use Rattle.lk_tables.specs.Targets.{is_undefined}
use Rattle.sec_graph.proofs.undefined_symbols.has_undefined.Given as goal

abbrev pub invariant-loop-symbol : goal.invariant-loop-symbol
invariant-loop-symbol l = (i : ℕ) → i < l.symbol → is_undefined (files_of l.test.tables.now) (binding_view l.test.binding.now) l.file i ≡ false
