use Rattle.std.proofs.Common.{◌≡◌, ◌≤◌, length}
use Rattle.icf_part.specs.Numbered.{AreFirstBy}
use Rattle.icf_part.proofs.walks.firsts_by.Given as goal

abbrev pub invariant-down : goal.invariant-down
invariant-down l = (l.left ≤ length l.labels) × ((length l.firsts.items ≡ l.fn.count) × AreFirstBy l.labels l.left l.firsts.items)

abbrev pub decreases-down : goal.decreases-down
decreases-down l = l.left
