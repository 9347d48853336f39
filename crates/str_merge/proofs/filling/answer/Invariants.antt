use Rattle.std.proofs.Common.{◌≡◌, ◌+◌, drop, length}
use Rattle.str_merge.specs.Filling.{with_answers}
use Rattle.str_merge.proofs.filling.answer.Given as goal

abbrev pub invariant-loop-n : goal.invariant-loop-n
invariant-loop-n l = record {
  count : length l.answers.items ≡ length l.fn.answers.items;
  rest : with_answers l.answers.items (drop l.n l.members) l.pool (l.fn.row + l.n) ≡ with_answers l.fn.answers.items l.members l.pool l.fn.row;
}
