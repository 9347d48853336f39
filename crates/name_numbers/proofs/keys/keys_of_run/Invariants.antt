use Rattle.std.proofs.Common.{◌≤◌}
use Rattle.lk_tables.specs.FileView.{file_views}
use Rattle.name_numbers.specs.Columns.{HasKeys}
use Rattle.name_numbers.proofs.keys.keys_of_run.Given as goal

abbrev pub invariant-loop-f : goal.invariant-loop-f
invariant-loop-f l = HasKeys (file_views l.files) l.fn.run.start l.f l.listed × (l.fn.run.start ≤ l.f)
