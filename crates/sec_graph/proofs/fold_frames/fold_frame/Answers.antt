use Rattle.std.proofs.Common.{arith}
use Rattle.lk_tables.specs.Frames.{lists_of}
use Rattle.lk_tables.specs.TablesView.{files_of}
use Rattle.sec_graph.proofs.FoundRecords.{small_record}
use Rattle.sec_graph.proofs.fold_frames.fold_frame.Goals as goal

pub tail_of-requires : goal.tail_of-requires
tail_of-requires c =
    let lists = lists_of c.args.frames.now in
    let small = small_record (files_of c.args.tables.now) lists c.args.fde c.requires.frames.within.within in
    let from = small.0 in
    omega (arith, from, c.span_of-own.ensures.from)

pub bytes_of-requires : goal.bytes_of-requires
bytes_of-requires c =
    let lists = lists_of c.args.frames.now in
    let small = small_record (files_of c.args.tables.now) lists c.cie_of-cie.result c.requires.frames.within.within in
    let len = small.1 in
    omega (arith, len, c.span_of-shared.ensures.len)
