use Rattle.std.proofs.Common.{length, get_or}
use Rattle.name_numbers.specs.Keys.{no_key}
use Rattle.name_numbers.proofs.Runs.{Marked}
use Rattle.name_numbers.proofs.sorting.mark_keys.Given as goal

abbrev pub invariant-loop-k : goal.invariant-loop-k
invariant-loop-k l = Marked (λ j. (get_or l.keys j no_key).name.text.now) (λ j. (get_or l.keys j no_key).at) (length l.keys) l.initial.firsts l.firsts l.first l.k
