use Rattle.std.proofs.Common.{◌≡◌, ◌+◌, ◌-◌, ◌≤◌, ◌++◌, length, map, take}
use Rattle.flat_rows.proofs.rows.push_ends.Given as goal

abbrev pub invariant-loop-end : goal.invariant-loop-end
invariant-loop-end l = record {
  items_are : l.firsts.items ≡ l.fn.firsts.items ++ map (λ end. l.base + end) (take l.end-index l.ends);
  room : l.firsts.len + (length l.ends - l.end-index) ≤ l.firsts.cap;
}
