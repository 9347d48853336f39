use Rattle.std.specs.Prelude.{◌≡◌, ℕ, true, List, find}
use Rattle.std.specs.List.{range_with_len}
use Rattle.std.specs.Borrow.{Bor}
use Rattle.indexmap.specs.IndexMap.{get}
use Rattle.lk_tables.specs.BindingView.{binding_view}
use Rattle.lk_tables.specs.LinkerSymbols.{is_c_identifier, is_named}
use Rattle.lk_tables.specs.TablesView.{files_of}
use Rattle.sym_resolve.specs.NamedSections.{eq_names}
use Rattle.sym_resolve.proofs.named_sections.sections_of.Given as goal

-- a look-up finds the first section of each name among those so far
abbrev pub invariant-loop-section : goal.invariant-loop-section
invariant-loop-section l = (q : Bor (List ℕ)) → is_c_identifier q.now ≡ true
    → get eq_names l.sections q ≡ find (is_named (files_of l.tables) (binding_view l.binding) q.now) (range_with_len 0 l.section)
