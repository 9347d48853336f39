-- What stands in the pools and in the linker's table changes nothing in where an output section is.
use Rattle.std.proofs.Common.{◌≡◌, ◌+◌, ◌<◌, List, length, refl, arith}
use Rattle.std.proofs.lemmas.List.{length-map}
use Rattle.lk_tables.specs.InputSections.{InputSection}
use Rattle.link_sections.specs.declared.got.GotEntry.{GotEntry}
use Rattle.link_sections.specs.declared.views.View.{View}
use Rattle.link_sections.specs.LaidOut.{LaidOut, layout_view, output_view, with_contents}
use Rattle.link_sections.specs.PoolViews.{PoolsView}
use Rattle.symbol_table.specs.Outputs.{place_in}

pub same_place : (laid : LaidOut) (pools : PoolsView) (table : List GotEntry) (s : InputSection) → place_in laid s ≡ place_in (with_contents laid pools table) s
unfolding place_in with_contents
same_place laid pools table s = refl

-- 16 bits number the output sections
pub few_outputs : (v : View) → length v.layout.now.outputs.items + 2 < 65536
unfolding layout_view with_contents
few_outputs v = omega (arith, v.sound.few, length-map v.layout.now.outputs.items output_view)
