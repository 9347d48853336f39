use Rattle.std.proofs.Common.{arith}
use Rattle.relax.specs.CallSizes.{hint_offsets}
use Rattle.relax.proofs.Hints.{hints_next}
use Rattle.relax.proofs.calls.note_hints.Goals as goal

pub loop-reloc-preserved : goal.loop-reloc-preserved
loop-reloc-preserved c =
    hints_next c.args.relocs.now c.loop-reloc.reloc-index c.loop-reloc.hints.items c.push_hint.new.hints.items (hint_offsets c.args.relocs.now)
    (omega (arith, c.loop-reloc-test.true)) c.in_ok-push_hint.ensures c.loop-reloc.invariant
