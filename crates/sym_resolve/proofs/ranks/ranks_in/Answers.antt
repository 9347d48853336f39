use Rattle.std.proofs.Common.{arith}
use Rattle.lk_base.proofs.Loops.{collect_step, collect_end}
use Rattle.lk_tables.specs.TablesView.{files_of}
use Rattle.lk_tables.proofs.ByNumber.{symbol_row}
use Rattle.sym_resolve.specs.Claims.{rank_by}
use Rattle.sym_resolve.proofs.ranks.ranks_in.Goals as goal

pub loop-f-preserved : goal.loop-f-preserved
loop-f-preserved c =
    let files = files_of c.args.tables.now in
    collect_step (symbol_row files (rank_by files c.args.least.now)) c.loop-f.f c.args.piece.end c.loop-f.ranks.items c.push_ranks.new.ranks.items _ (omega arith) c.loop-f.invariant c.in_ok-push_ranks.ensures

pub returns : goal.returns
returns c =
    let files = files_of c.args.tables.now in
    collect_end (symbol_row files (rank_by files c.args.least.now)) c.loop-f.f c.args.piece.end c.loop-f.ranks.items _ (omega arith) c.loop-f.invariant
