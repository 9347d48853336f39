use Rattle.std.proofs.Common.{◌≡◌, Some, None, if◌then◌else◌, ◌&&◌, not, map}
use Rattle.std.specs.List.{range_with_len}
use Rattle.link_sections.specs.Leaders as spec
use Rattle.link_sections.specs.PoolViews.{is_merged, merged_views}
use Rattle.link_sections.proofs.leaders.own_leaders.Given as goal

abbrev pub invariant-loop-section : goal.invariant-loop-section
invariant-loop-section l = l.leaders.items ≡ map (λ n. if spec.is_kept l.kept n && not (is_merged (merged_views l.pools) n) then Some n else None) (range_with_len 0 l.section)
