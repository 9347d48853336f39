use Rattle.std.proofs.Common.{length}
use Rattle.lk_tables.specs.BindingView.{binding_view}
use Rattle.lk_tables.specs.TablesView.{files_of}
use Rattle.sec_graph.specs.Rows.{rows_of}
use Rattle.work_split.proofs.RunsJoined.{joined_run, piece_within}
use Rattle.sec_graph.proofs.graph.find_ends.Goals as goal

pub over_shares-found-requires-clause-accepts : goal.over_shares-found-requires-clause-accepts
over_shares-found-requires-clause-accepts g c = λ κs within w p lt at.
    (c.requires.frames, (c.requires.named, piece_within (length (files_of c.args.tables.now)) c.args.pieces.now w p c.requires.tiles lt at))

pub returns-in-Ok : goal.returns-in-Ok
returns-in-Ok g c =
    let files = files_of c.args.tables.now in
    joined_run (rows_of files (binding_view c.args.binding.now)) _ (length files) c.args.pieces.now c.over_shares-found.result
    c.in-Ok.parts c.over_shares-found.ensures (λ p s h. h.1) c.requires.tiles c.in-Ok.is
