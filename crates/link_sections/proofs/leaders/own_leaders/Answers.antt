use Rattle.std.proofs.Common.{Some, None, if◌then◌else◌, ◌&&◌, not, ◌∙◌, ap, ◌++◌, ◌∷◌, []}
use Rattle.lk_base.proofs.Loops.{map_step}
use Rattle.link_sections.specs.Leaders as spec
use Rattle.link_sections.specs.PoolViews.{is_merged, merged_views}
use Rattle.link_sections.proofs.leaders.own_leaders.Goals as goal

pub loop-section-preserved : goal.loop-section-preserved
loop-section-preserved c =
    map_step (λ n. if spec.is_kept c.args.kept.now n && not (is_merged (merged_views c.args.pools.now) n) then Some n else None) c.loop-section.section c.loop-section.leaders.items c.push.new.self.items
    c.loop-section.invariant (c.in_ok-push.ensures.items ∙ ap (λ x. c.loop-section.leaders.items ++ x ∷ []) c.own_leader.ensures)
