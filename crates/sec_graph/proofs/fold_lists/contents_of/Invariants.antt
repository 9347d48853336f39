use Rattle.std.proofs.Common.{◌≡◌, map, take}
use Rattle.lk_tables.specs.TablesView.{files_of}
use Rattle.sec_graph.specs.Foldable.{contents_at}
use Rattle.sec_graph.proofs.fold_lists.contents_of.Given as goal

abbrev pub invariant-loop-i : goal.invariant-loop-i
invariant-loop-i l = map (λ (text : _). text.now) l.list.items ≡ map (contents_at (files_of l.tables)) (take l.i l.sections)
