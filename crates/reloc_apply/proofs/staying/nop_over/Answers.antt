use Rattle.std.proofs.Common.{◌+◌, ◌-◌, length, get_or, sym, ◌∙◌, arith}
use Rattle.std.proofs.lemmas.List.FromFn.{get_or-map-range_with_len, length-map-range_with_len}
use Rattle.rv_code.specs.Instructions.{nop_byte}
use Rattle.reloc_apply.specs.Staying.{nops}
use Rattle.reloc_apply.proofs.Placing.{inside, past, under}
use Rattle.reloc_apply.proofs.staying.nop_over.Goals as goal

pub returns-then-place-at : goal.returns-then-place-at
returns-then-place-at c =
    let n = c.args.count in
    sym (under c.args.at c.args.place (c.args.at + length (nops n)) (get_or (nops n) (c.args.place - c.args.at) 0) c.args.before c.if-place-at.true)

pub returns-then-at-count : goal.returns-then-at-count
returns-then-at-count c =
    let n = c.args.count in
    let size = length-map-range_with_len (nop_byte n) 0 n in
    let out = c.if-at-count.true in
    sym (past c.args.at c.args.place (c.args.at + length (nops n)) (get_or (nops n) (c.args.place - c.args.at) 0) c.args.before (omega (arith, size, out)))

pub returns : goal.returns
returns c =
    let n = c.args.count in
    let i = c.args.place - c.args.at in
    let size = length-map-range_with_len (nop_byte n) 0 n in
    let low = c.if-place-at.false in
    let high = c.if-at-count.false in
    c.nop_byte.ensures
    ∙ sym (get_or-map-range_with_len (nop_byte n) 0 n i i 0 (omega (arith, low, high)) (omega arith))
    ∙ sym (inside c.args.at c.args.place (c.args.at + length (nops n)) (get_or (nops n) i 0) c.args.before low (omega (arith, size, high)))
