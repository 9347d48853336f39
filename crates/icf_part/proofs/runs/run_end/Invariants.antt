use Rattle.std.proofs.Common.{◌≡◌, ℕ, ◌/◌, ◌^◌, ◌<◌, ◌≤◌, get_or}
use Rattle.icf_part.proofs.runs.run_end.Given as goal

abbrev pub invariant-loop-i : goal.invariant-loop-i
invariant-loop-i l = (l.fn.at < l.i) × ((j : ℕ) → l.fn.at ≤ j → j < l.i → get_or l.words j 0 / 2 ^ 32 ≡ get_or l.words l.fn.at 0 / 2 ^ 32)
