use Rattle.std.specs.Prelude.{option_to_list}
use Rattle.lk_tables.specs.FileView.{file_views}
use Rattle.file_live.specs.Pulls.{pulled}
use Rattle.file_live.specs.Visits.{reached}
use Rattle.file_live.proofs.Searching.{AreVisited}
use Rattle.file_live.proofs.search.visit_pulled.Given as goal

abbrev pub invariant-loop-i : goal.invariant-loop-i
invariant-loop-i l = AreVisited (λ i. option_to_list (pulled (file_views l.files) l.f i)) (reached l.initial.seen.items l.initial.queue.items) (reached l.seen.items l.queue.items) l.i
