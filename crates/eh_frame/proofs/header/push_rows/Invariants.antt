use Rattle.std.proofs.Common.{◌≡◌, ◌++◌, drop, flat_map}
use Rattle.eh_frame.specs.Header.{row_bytes}
use Rattle.eh_frame.proofs.header.push_rows.Given as goal

abbrev pub invariant-loop-row : goal.invariant-loop-row
invariant-loop-row l = l.out.items ++ flat_map row_bytes (drop l.row-index l.rows) ≡ l.fn.out.items ++ flat_map row_bytes l.rows
