use Rattle.lk_tables.specs.Frames.{lists_of}
use Rattle.std.proofs.Common.{arith}
use Rattle.eh_frame.proofs.Planned.{no_len, some_len}
use Rattle.eh_frame.proofs.planning.frame_len.Goals as goal

pub returns-then-fdes-eq0 : goal.returns-then-fdes-eq0
returns-then-fdes-eq0 c = no_len (lists_of c.args.frames.now) c.args.fdes.now c.args.cies.now (omega arith)

pub returns : goal.returns
returns c =
    some_len (lists_of c.args.frames.now) c.args.fdes.now c.args.cies.now c.with_sizes-start.result c.with_sizes.result (omega arith) c.with_sizes-start.ensures c.with_sizes.ensures
