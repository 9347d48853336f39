use Rattle.std.proofs.Common.{length}
use Rattle.lk_tables.specs.Files.{by_symbol}
use Rattle.lk_tables.specs.TablesView.{files_of}
use Rattle.lk_tables.proofs.ByNumber.{symbol_row}
use Rattle.sym_resolve.specs.Claims.{rank_by}
use Rattle.work_split.proofs.RunsJoined.{joined_run, piece_within}
use Rattle.sym_resolve.proofs.ranks.ranks_of.Goals as goal

pub over_shares-filled-requires-clause-accepts : goal.over_shares-filled-requires-clause-accepts
over_shares-filled-requires-clause-accepts g c = λ κs bound w p lt at. (c.requires.numbered, piece_within (length (files_of c.args.tables.now)) c.args.pieces.now w p c.requires.tiles lt at)

pub returns-in-Ok : goal.returns-in-Ok
unfolding by_symbol
returns-in-Ok g c =
    let files = files_of c.args.tables.now in
    joined_run (symbol_row files (rank_by files c.args.least.now)) _ (length files) c.args.pieces.now c.over_shares-filled.result c.in-Ok.ranks c.over_shares-filled.ensures (λ p s h. h.1) c.requires.tiles c.in-Ok.is
