use Rattle.std.proofs.Common.{◌+◌, ◌-◌, length, get_or, slice_index, sym, ◌∙◌, arith, inl, inr}
use Rattle.std.proofs.lemmas.Bool.{cases_lt}
use Rattle.std.proofs.lemmas.List.FromFn.{length-map-range_with_len}
use Rattle.rv_code.specs.Instructions.{nop_byte}
use Rattle.reloc_apply.specs.Staying.{nops}
use Rattle.reloc_apply.proofs.Placing.{past}
use Rattle.reloc_apply.proofs.staying.fill_nops.Goals as goal

pub returns-clause-bytes : goal.returns-clause-bytes
returns-clause-bytes c = λ i lt.
    let n = c.args.count in
    let size = length-map-range_with_len (nop_byte n) 0 n in
    elim (cases_lt i c.loop-i.i) [
      | inl low ↦ c.loop-i.invariant.1 i low
      | inr high ↦
          c.loop-i.invariant.2 i high
          ∙ sym (past c.args.at (c.args.from + i) (c.args.at + length (nops n)) (get_or (nops n) (c.args.from + i - c.args.at) 0) (slice_index c.args.block.now i)
          (omega (arith, size, c.loop-i-test.false, c.min-end.ensures, c.saturating_sub-2.ensures, high, lt)))
    ]
