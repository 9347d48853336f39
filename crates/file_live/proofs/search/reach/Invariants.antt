use Rattle.std.proofs.Common.{◌-◌, length}
use Rattle.lk_tables.specs.FileView.{file_views}
use Rattle.file_live.specs.Pulls.{ends, first_files, lists_of}
use Rattle.file_live.specs.Visits.{reached}
use Rattle.file_live.proofs.Searching.{Searched}
use Rattle.file_live.proofs.search.reach.Given as goal

abbrev pub invariant-loop-next : goal.invariant-loop-next
invariant-loop-next l = Searched (first_files (lists_of l.undefined) (file_views l.files)) (ends (file_views l.files)) l.next (reached l.seen.items l.queue.items)

abbrev pub decreases-loop-next : goal.decreases-loop-next
decreases-loop-next l = length l.files - l.next
