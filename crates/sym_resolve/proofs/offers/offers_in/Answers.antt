use Rattle.std.proofs.Common.{arith}
use Rattle.lk_base.proofs.Loops.{collect_step, collect_end}
use Rattle.lk_tables.specs.TablesView.{files_of}
use Rattle.sym_resolve.specs.Claims.{claim_at}
use Rattle.sym_resolve.specs.Symbols.{in_file}
use Rattle.sym_resolve.proofs.offers.offers_in.Goals as goal

pub loop-f-preserved : goal.loop-f-preserved
loop-f-preserved c =
    let files = files_of c.args.tables.now in
    collect_step (in_file files (claim_at files c.args.discarded.now)) c.loop-f.f c.args.piece.end c.loop-f.offers.items c.push_offers.new.offers.items _ (omega arith) c.loop-f.invariant c.in_ok-push_offers.ensures

pub returns : goal.returns
returns c =
    let files = files_of c.args.tables.now in
    collect_end (in_file files (claim_at files c.args.discarded.now)) c.loop-f.f c.args.piece.end c.loop-f.offers.items _ (omega arith) c.loop-f.invariant
