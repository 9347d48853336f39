-- The tables of a link that is laid out, as plain lists.
use Rattle.std.specs.Prelude.{ℕ, Option, List}
use Rattle.lk_tables.specs.Binding.{Bindings}
use Rattle.lk_tables.specs.BindingView.{binding_view}
use Rattle.lk_tables.specs.Files.{File}
use Rattle.lk_tables.specs.TablesView.{files_of}
use Rattle.link_sections.specs.GotView.{entries_of}
use Rattle.link_sections.specs.LaidOut.{LaidOut, layout_view, with_contents}
use Rattle.link_sections.specs.PoolViews.{pools_view}
use Rattle.link_sections.specs.declared.views.View.{View}
use Rattle.link_sections.specs.declared.links.LaidLink.{LaidLink}

abbrev pub link_files : LaidLink → List File
link_files link = files_of link.tables.now

abbrev pub link_binding : LaidLink → Bindings
link_binding link = binding_view link.binding.now

abbrev pub link_leaders : LaidLink → List (Option ℕ)
link_leaders link = link.leaders.now

abbrev pub link_laid : LaidLink → LaidOut
link_laid link = with_contents (layout_view link.layout.now) (pools_view (link_files link) link.pools.now) (entries_of link.got.now)

-- the tables of a link, by its view
abbrev pub link_in : View → LaidLink
link_in view = record {
  tables = view.tables;
  binding = view.binding;
  pools = view.pools;
  leaders = view.leaders;
  got = view.got;
  layout = view.layout;
}
