use Rattle.std.proofs.Common.{arith, get_or}
use Rattle.lk_tables.specs.Frames.{frame_no, lists_of}
use Rattle.eh_frame.specs.Plan.{size_of}
use Rattle.eh_frame.proofs.Planned.{len_all, len_fits, len_more}
use Rattle.eh_frame.proofs.planning.with_sizes.Goals as goal

pub overflow_add-len : goal.overflow_add-len
overflow_add-len c =
    let fits =
    len_fits (size_of (lists_of c.args.frames.now)) c.args.records.now c.loop-number.number-index (frame_no 0 0) c.args.start c.loop-number.len c.size_of-size.result c.loop-number-test.true
    c.loop-number.invariant c.size_of-size.ensures c.requires.room in
    omega (arith, fits)

pub loop-number-preserved : goal.loop-number-preserved
loop-number-preserved c =
    len_more (size_of (lists_of c.args.frames.now)) c.args.records.now c.loop-number.number-index (frame_no 0 0) c.args.start c.loop-number.len c.size_of-size.result c.loop-number-test.true
    c.loop-number.invariant c.size_of-size.ensures c.requires.room

pub returns : goal.returns
returns c =
    len_all (size_of (lists_of c.args.frames.now)) c.args.records.now c.loop-number.number-index c.args.start c.loop-number.len (omega arith) c.loop-number.invariant
