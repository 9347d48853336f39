use Rattle.lk_tables.specs.FileView.{file_views}
use Rattle.file_live.specs.Pulls.{asked_at, lists_of}
use Rattle.file_live.specs.Visits.{reached}
use Rattle.file_live.proofs.Searching.{AreVisited}
use Rattle.file_live.proofs.search.visit_asked.Given as goal

abbrev pub invariant-loop-n : goal.invariant-loop-n
invariant-loop-n l = AreVisited (asked_at (lists_of l.undefined) (file_views l.files)) (reached l.initial.seen.items l.initial.queue.items) (reached l.seen.items l.queue.items) l.n
