use Rattle.std.proofs.Common.{◌≡◌, ◌≤◌, ◌+◌, ◌++◌, length, List, All, map}
use Rattle.lk_base.specs.declared.abi.TheConstants.{ALIGN_MAX}
use Rattle.lk_tables.specs.declared.classes.Class.{Class}
use Rattle.link_sections.specs.declared.members.Member.{Member}
use Rattle.link_sections.specs.Cuts.{Cut}
use Rattle.link_sections.specs.LaidOut.{OutputPlace, OutputSection, output_view, place_view}
use Rattle.link_sections.specs.SizesView.{sizes_of}
use Rattle.output_sections.specs.Items.{Item}
use Rattle.output_sections.specs.ItemViews.{items_view}
use Rattle.layout.specs.Walk.{IsReady, all_put, end_along, members_along, places_along, runs, sections_along, stands_along, stands_view, weight}
use Rattle.output_sections.specs.declared.rows.Row.{Row}
use Rattle.layout.specs.declared.places.Places.{Places}
use Rattle.layout.specs.declared.walk.Cursor.{Cursor}
use Rattle.layout.proofs.walk.walk_class.Given as goal

pub record Came (sizes : List (List Cut)) (items : List Item) (class : Class) (cursor at : Cursor) (rows rest : List Row) (before outputs : List OutputSection)
    (past extents : List OutputPlace) (old members : List Member) (older places : Places) : Type 0 where
  pub sections : length places.starts.items ≡ length older.starts.items
  pub pools : length places.pools.items ≡ length older.pools.items
  pub ready : All (IsReady sizes (length places.starts.items) (length places.pools.items)) rest
  pub extra : at.extra ≤ ALIGN_MAX
  pub bound : at.at + weight rest ≤ cursor.at + weight rows
  pub end : end_along sizes at (runs rest) ≡ end_along sizes cursor (runs rows)
  pub those : outputs ++ sections_along sizes items class at (runs rest) ≡ before ++ sections_along sizes items class cursor (runs rows)
  pub follow : members ++ members_along sizes at (runs rest) ≡ old ++ members_along sizes cursor (runs rows)
  pub stand : extents ++ places_along sizes items class at (runs rest) ≡ past ++ places_along sizes items class cursor (runs rows)
  pub all : all_put (stands_along sizes at (runs rest)) (stands_view places) ≡ all_put (stands_along sizes cursor (runs rows)) (stands_view older)

abbrev pub invariant-loop-rest : goal.invariant-loop-rest
invariant-loop-rest l =
    Came (sizes_of l.from.sizes.now) (items_view l.from.items.now) l.class l.fn.cursor l.at l.rows l.rest (map output_view l.fn.outputs.items) (map output_view l.outputs.items)
    (map place_view l.fn.extents.items) (map place_view l.extents.items) l.fn.members.items l.members.items l.fn.places l.places

abbrev pub decreases-loop-rest : goal.decreases-loop-rest
decreases-loop-rest l = length l.rest
