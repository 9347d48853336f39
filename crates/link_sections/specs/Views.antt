-- The tables of a link together as plain lists.
use Rattle.std.specs.Prelude.{ℕ, Option, List}
use Rattle.lk_tables.specs.Binding.{Bindings}
use Rattle.lk_tables.specs.BindingView.{binding_view}
use Rattle.lk_tables.specs.Files.{File}
use Rattle.lk_tables.specs.TablesView.{files_of}
use Rattle.link_sections.specs.declared.views.View.{View}
use Rattle.link_sections.specs.GotView.{entries_of}
use Rattle.link_sections.specs.LaidOut.{LaidOut, layout_view, with_contents}
use Rattle.link_sections.specs.PoolViews.{pools_view}

abbrev pub files_in : View → List File
files_in view = files_of view.tables.now

abbrev pub binding_in : View → Bindings
binding_in view = binding_view view.binding.now

abbrev pub leaders_in : View → List (Option ℕ)
leaders_in view = view.leaders.now

abbrev pub laid_in : View → LaidOut
laid_in view = with_contents (layout_view view.layout.now) (pools_view (files_in view) view.pools.now) (entries_of view.got.now)

-- what a definition over plain lists says of the tables that a view lends
abbrev pub by_view {ℓ} : {X : Type ℓ} → (List File → Bindings → List (Option ℕ) → LaidOut → X) → View → X
by_view f view = f (files_in view) (binding_in view) (leaders_in view) (laid_in view)
