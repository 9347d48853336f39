use Rattle.std.proofs.Common.{length}
use Rattle.lk_tables.specs.TablesView.{files_of}
use Rattle.lk_tables.specs.BindingView.{binding_view}
use Rattle.sym_resolve.specs.Unbound.{all_unbound, unbound_at}
use Rattle.sym_resolve.specs.Symbols.{in_file}
use Rattle.work_split.proofs.RunsJoined.{joined_run, piece_within}
use Rattle.sym_resolve.proofs.unbound.unbound_of.Goals as goal

pub over_shares-listed-requires-clause-accepts : goal.over_shares-listed-requires-clause-accepts
over_shares-listed-requires-clause-accepts g c = λ κs bound w p lt at. piece_within (length (files_of c.args.tables.now)) c.args.pieces.now w p c.requires.tiles lt at

pub returns-in-Ok : goal.returns-in-Ok
unfolding all_unbound
returns-in-Ok g c =
    let files = files_of c.args.tables.now in
    joined_run (in_file files (unbound_at files (binding_view c.args.binding.now))) _ (length files) c.args.pieces.now c.over_shares-listed.result c.in-Ok.unbound c.over_shares-listed.ensures (λ p s h. h.1) c.requires.tiles c.in-Ok.is
