use Rattle.lk_tables.specs.Files.{section_total}
use Rattle.lk_tables.specs.TablesView.{files_of}
use Rattle.link_sections.specs.SizesView.{sizes_of}
use Rattle.layout.specs.Layout.{cuts_of}
use Rattle.layout.proofs.RowsOfCuts.{Laying}
use Rattle.layout.proofs.cut_rows.lay_rows.Given as goal

abbrev pub invariant-loop-n : goal.invariant-loop-n
invariant-loop-n l = Laying (files_of l.tables) (cuts_of l.leaders (sizes_of l.sizes) l.starts) (section_total (files_of l.tables)) l.n l.rows
