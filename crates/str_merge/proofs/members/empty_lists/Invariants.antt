use Rattle.std.proofs.Common.{◌≡◌, ℕ, [], length}
use Rattle.std.specs.Prelude.{All}
use Rattle.std.specs.Global.{Vec}
use Rattle.str_merge.proofs.members.empty_lists.Given as goal

abbrev pub invariant-loop-made : goal.invariant-loop-made
invariant-loop-made l = record {
  count : length l.lists.items ≡ l.made;
  empty : All (λ (list : Vec ℕ). list.items ≡ []) l.lists.items;
}
