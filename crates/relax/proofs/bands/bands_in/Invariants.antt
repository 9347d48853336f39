use Rattle.std.proofs.Common.{◌≡◌, ◌+◌, ◌-◌, ◌<◌, ◌++◌, ℕ, flat_map}
use Rattle.std.specs.List.{range_with_len}
use Rattle.relax.specs.Bands.{jump_no, open_row, size_row}
use Rattle.relax.specs.Points.{IsLowJump}
use Rattle.relax.proofs.bands.bands_in.Given as goal

abbrev pub invariant-loop-k : goal.invariant-loop-k
invariant-loop-k l = record {
  sizes : l.sizes.items ++ flat_map (size_row l.members l.rows) (range_with_len l.k (l.fn.piece.end - l.k)) ≡ flat_map (size_row l.members l.rows) (range_with_len l.fn.piece.start (l.fn.piece.end - l.fn.piece.start));
  opens : l.opens.items ++ flat_map (open_row l.members l.rows) (range_with_len l.k (l.fn.piece.end - l.k)) ≡ flat_map (open_row l.members l.rows) (range_with_len l.fn.piece.start (l.fn.piece.end - l.fn.piece.start));
  low : (k : ℕ) → l.fn.piece.start + k < l.k → IsLowJump (jump_no l.members l.rows (l.fn.piece.start + k));
}
