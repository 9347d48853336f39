-- The cuts of a section, as the code holds them and as plain records.
use Rattle.std.proofs.Common.{◌≡◌, ℕ, [], get_or}
use Rattle.link_sections.specs.declared.layouts.Layout.{Layout}
use Rattle.link_sections.specs.CutsView.{cut_views}
use Rattle.link_sections.specs.LaidOut.{cuts_at, layout_view}
use Rattle.link_sections.proofs.CutRows.{row_view}

pub cuts_of : (layout : Layout) (n : ℕ) → cuts_at (layout_view layout) n ≡ cut_views (get_or layout.sizes.rows n [])
unfolding layout_view
cuts_of layout n = row_view layout.sizes.rows n
