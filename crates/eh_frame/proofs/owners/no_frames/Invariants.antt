use Rattle.std.proofs.Common.{◌≡◌, [], map, replicate}
use Rattle.eh_frame.proofs.owners.no_frames.Given as goal

abbrev pub invariant-loop : goal.invariant-loop
invariant-loop l = map (λ list. list.items) l.of.items ≡ replicate l.counter []
