use Rattle.std.proofs.Common.{ℕ, ◌<◌, ◌≤◌, get_or, length}
use Rattle.reloc_apply.specs.Sites.{no_held}
use Rattle.reloc_apply.proofs.CallCuts.{NoneBefore}
use Rattle.reloc_apply.proofs.calls.call_size.Given as goal

abbrev pub invariant-loop-k : goal.invariant-loop-k
invariant-loop-k l = record {
  none : NoneBefore l.cuts l.offset l.k;
  after : (j : ℕ) → l.k ≤ j → j < length l.cuts → l.offset ≤ (get_or l.cuts j no_held).at;
}
