use Rattle.output_sections.specs.Items.{items_at}
use Rattle.output_sections.specs.ItemViews.{items_view}
use Rattle.lk_tables.specs.BindingView.{binding_view}
use Rattle.lk_tables.specs.Files.{section_total}
use Rattle.lk_tables.specs.TablesView.{files_of}
use Rattle.output_sections.proofs.Walked.{AreWalked}
use Rattle.output_sections.proofs.items.items_of.Given as goal

abbrev pub invariant-loop-section : goal.invariant-loop-section
invariant-loop-section l = AreWalked l.pools.pools.items (items_at (files_of l.tables) (binding_view l.binding) l.pools.pools.items l.leaders) l.section l.next (section_total (files_of l.tables)) (items_view l.items.items)
