-- The cuts of all sections as plain lists, by section number.
use Rattle.std.specs.Prelude.{List, map}
use Rattle.link_sections.specs.declared.cuts.Cut.{Cut as HeldCut}
use Rattle.link_sections.specs.declared.sizes.Sizes.{Sizes}
use Rattle.link_sections.specs.Cuts.{Cut}
use Rattle.link_sections.specs.CutsView.{cut_views}

-- of each section, in order of offset
abbrev pub cut_rows : Sizes → List (List HeldCut)
cut_rows sizes = sizes.rows

-- and as plain records
abbrev pub sizes_of : Sizes → List (List Cut)
sizes_of sizes = map cut_views (cut_rows sizes)
