use Rattle.std.proofs.Common.{◌≡◌, ◌++◌, drop}
use Rattle.relax.specs.CallSizes.{hint_offsets}
use Rattle.relax.proofs.calls.note_hints.Given as goal

abbrev pub invariant-loop-reloc : goal.invariant-loop-reloc
invariant-loop-reloc l = l.hints.items ++ hint_offsets (drop l.reloc-index l.relocs) ≡ hint_offsets l.relocs
