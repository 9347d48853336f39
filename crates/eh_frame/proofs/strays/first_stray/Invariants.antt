use Rattle.std.proofs.Common.{◌≡◌, ℕ, ◌<◌, false, get_or}
use Rattle.lk_tables.specs.Files.{no_reloc}
use Rattle.eh_frame.specs.RecordChecks.{is_stray}
use Rattle.eh_frame.proofs.strays.first_stray.Given as goal

-- none so far is one
abbrev pub invariant-loop-number : goal.invariant-loop-number
invariant-loop-number l = (k : ℕ) → k < l.number → is_stray l.bytes (get_or l.relocs k no_reloc) ≡ false
