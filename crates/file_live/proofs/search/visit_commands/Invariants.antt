use Rattle.lk_tables.specs.FileView.{file_views}
use Rattle.file_live.specs.Pulls.{command_at}
use Rattle.file_live.specs.Visits.{reached}
use Rattle.file_live.proofs.Searching.{AreVisited}
use Rattle.file_live.proofs.search.visit_commands.Given as goal

abbrev pub invariant-loop-f : goal.invariant-loop-f
invariant-loop-f l = AreVisited (command_at (file_views l.files)) (reached l.initial.seen.items l.initial.queue.items) (reached l.seen.items l.queue.items) l.f
