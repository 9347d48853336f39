use Rattle.std.proofs.Common.{◌≡◌, ℕ, ◌+◌, ◌<◌, ◌≤◌, length, slice_index}
use Rattle.reloc_apply.specs.Image.{over, piece}
use Rattle.reloc_apply.specs.Staying.{nops}
use Rattle.reloc_apply.proofs.staying.fill_nops.Given as goal

abbrev pub invariant-loop-i : goal.invariant-loop-i
invariant-loop-i l = (length l.block ≡ length l.fn.block)
    × ((k : ℕ) → k < l.i → slice_index l.block k ≡ over (piece l.at (nops l.count)) (slice_index l.fn.block k) (l.from + k))
    × ((k : ℕ) → l.i ≤ k → slice_index l.block k ≡ slice_index l.fn.block k)
