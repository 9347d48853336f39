use Rattle.std.proofs.Common.{◌≡◌, ◌≤◌, ◌+◌, ◌*◌, ◌++◌, drop, length, List, ℕ}
use Rattle.lk_base.specs.declared.abi.TheConstants.{ALIGN_MAX}
use Rattle.link_sections.specs.declared.members.Member.{Member}
use Rattle.link_sections.specs.Cuts.{Cut}
use Rattle.link_sections.specs.SizesView.{sizes_of}
use Rattle.layout.specs.Walk.{all_put, members_from, past, stands_view, weight}
use Rattle.output_sections.specs.declared.rows.Row.{Row}
use Rattle.layout.specs.declared.places.Places.{Places}
use Rattle.layout.proofs.walk.walk_members.Given as goal

pub record Walked (sizes : List (List Cut)) (start cursor i : ℕ) (rows : List Row) (old members : List Member) (before places : Places) : Type 0 where
  pub least : start ≤ cursor
  pub bound : cursor + weight (drop i rows) + i * ALIGN_MAX ≤ start + weight rows
  pub end : past sizes cursor (drop i rows) ≡ past sizes start rows
  pub follow : members ++ members_from sizes cursor (drop i rows) ≡ old ++ members_from sizes start rows
  pub all : all_put (members_from sizes cursor (drop i rows)) (stands_view places) ≡ all_put (members_from sizes start rows) (stands_view before)
  pub sections : length places.starts.items ≡ length before.starts.items
  pub pools : length places.pools.items ≡ length before.pools.items

abbrev pub invariant-loop-row : goal.invariant-loop-row
invariant-loop-row l =
    Walked (sizes_of l.from.sizes.now) l.start l.cursor l.row-index l.rows l.fn.members.items l.members.items l.fn.places l.places
