use Rattle.std.proofs.Common.{◌≡◌, drop, length}
use Rattle.why_chain.specs.Visits.{all_gathered, gathered}
use Rattle.why_chain.proofs.visits.gather_ends.Given as goal

-- the rest gathers from here on what all gather from the start
abbrev pub invariant-loop-i : goal.invariant-loop-i
invariant-loop-i l = record {
  rest : all_gathered (gathered l.seen.items l.row.items) (drop l.i l.ends) ≡ all_gathered (gathered l.initial.seen.items l.initial.row.items) l.ends;
  wide : length l.seen.items ≡ length l.initial.seen.items;
}
