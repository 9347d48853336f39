use Rattle.std.proofs.Common.{arith, rules}
use Rattle.reloc_apply.proofs.CallCuts.{size_found_at, size_none, size_past}
use Rattle.reloc_apply.proofs.calls.call_size.Goals as goal

pub returns-then-cut-offset : goal.returns-then-cut-offset
returns-then-cut-offset c =
    let lt = c.loop-k-test.true in
    let within = c.loop-k.auto.k-end in
    size_none c.args.cuts.now c.args.offset c.loop-k.k c.requires (omega arith) c.loop-k.invariant.none
    (c.loop-k.invariant.after c.loop-k.k (omega arith) (omega arith)) c.if-cut-offset.true

pub returns-then-not-cut : goal.returns-then-not-cut
returns-then-not-cut c =
    let lt = c.loop-k-test.true in
    let within = c.loop-k.auto.k-end in
    size_found_at c.args.cuts.now c.args.offset c.loop-k.k (omega arith) c.loop-k.invariant.none c.if-cut-offset.false (search rules)

pub returns : goal.returns
returns c =
    let past = c.loop-k-test.false in
    let within = c.loop-k.auto.k-end in
    size_past c.args.cuts.now c.args.offset c.loop-k.k (omega arith) c.loop-k.invariant.none
