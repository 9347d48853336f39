use Rattle.std.proofs.Common.{◌≡◌, drop, length, List, ℕ}
use Rattle.layout.specs.Walk.{all_put, members_still, stands_view}
use Rattle.output_sections.specs.declared.rows.Row.{Row}
use Rattle.layout.specs.declared.places.Places.{Places}
use Rattle.layout.proofs.walk.walk_empty.Given as goal

pub record Stood (start i : ℕ) (rows : List Row) (before places : Places) : Type 0 where
  pub sections : length places.starts.items ≡ length before.starts.items
  pub pools : length places.pools.items ≡ length before.pools.items
  pub all : all_put (members_still start (drop i rows)) (stands_view places) ≡ all_put (members_still start rows) (stands_view before)

abbrev pub invariant-loop-row : goal.invariant-loop-row
invariant-loop-row l = Stood l.start l.row-index l.rows l.fn.places l.places
