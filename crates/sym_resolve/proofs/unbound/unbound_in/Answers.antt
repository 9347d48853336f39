use Rattle.std.proofs.Common.{arith}
use Rattle.lk_base.proofs.Loops.{collect_step, collect_end}
use Rattle.lk_tables.specs.TablesView.{files_of}
use Rattle.lk_tables.specs.BindingView.{binding_view}
use Rattle.sym_resolve.specs.Unbound.{unbound_at}
use Rattle.sym_resolve.specs.Symbols.{in_file}
use Rattle.sym_resolve.proofs.unbound.unbound_in.Goals as goal

pub loop-f-preserved : goal.loop-f-preserved
loop-f-preserved c =
    let files = files_of c.args.tables.now in
    collect_step (in_file files (unbound_at files (binding_view c.args.binding.now))) c.loop-f.f c.args.piece.end c.loop-f.unbound.items c.push_unbound.new.unbound.items _ (omega arith) c.loop-f.invariant c.in_ok-push_unbound.ensures

pub returns : goal.returns
returns c =
    let files = files_of c.args.tables.now in
    collect_end (in_file files (unbound_at files (binding_view c.args.binding.now))) c.loop-f.f c.args.piece.end c.loop-f.unbound.items _ (omega arith) c.loop-f.invariant
