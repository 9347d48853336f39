use Rattle.std.proofs.Common.{◌≡◌, ℕ, ◌<◌, false}
use Rattle.lk_tables.specs.FileView.{file_view}
use Rattle.asked_names.specs.AskedNames.{is_named_so}
use Rattle.asked_names.proofs.sections.symbol_named.Given as goal

abbrev pub invariant-loop-i : goal.invariant-loop-i
invariant-loop-i l = (k : ℕ) → k < l.i → is_named_so (file_view l.file) k l.name ≡ false
