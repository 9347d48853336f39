-- Each FDE of a function that is written is written once, and no other.
use Rattle.std.proofs.Common.{List}
use Rattle.eh_frame.proofs.PlanLaws.{plan_laws}
use Rattle.link_command.specs.Command.{CommandView}
use Rattle.lk_tables.specs.Frames.{all_lists}
use Rattle.link_driver.specs.Link.{bound_in, kept_in, linked_files, link_options_in}
use Rattle.link_passes.specs.Passes.{leaders_in, merged_of, plan_in}
use Rattle.link_passes.specs.Sources.{Source}
use Rattle.link_driver.specs.Unwound.{Plans}
use Rattle.link_passes.proofs.RecordLists.{lists_in_order}

pub plans : (asked : CommandView) (ss : List Source) → Plans asked ss
unfolding plan_in
plans asked ss =
    let files = linked_files asked ss in
    let b = bound_in asked ss in
    let w = link_options_in asked ss in
    let kept = kept_in asked ss in
    plan_laws files b (merged_of w files b kept) (all_lists files) (leaders_in w files b kept) (lists_in_order files)
