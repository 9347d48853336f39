use Rattle.std.proofs.Common.{arith, ap, ◌∙◌, ◌++◌, ◌∷◌, []}
use Rattle.lk_base.proofs.Loops.{collect_step, collect_end}
use Rattle.lk_tables.specs.BindingView.{binding_view}
use Rattle.lk_tables.specs.TablesView.{files_of}
use Rattle.sec_graph.specs.Rows.{rows_of}
use Rattle.sec_graph.proofs.graph.ends_between.Goals as goal

pub loop-file-preserved : goal.loop-file-preserved
loop-file-preserved c =
    collect_step (rows_of (files_of c.args.tables.now) (binding_view c.args.binding.now)) c.loop-file.file c.args.piece.end
    c.loop-file.parts.items c.push.new.self.items _ (omega arith) c.loop-file.invariant
    (c.in_ok-push.ensures.items ∙ ap (λ part. c.loop-file.parts.items ++ part ∷ []) c.in_ok-file_ends.ensures)

pub returns : goal.returns
returns c =
    collect_end (rows_of (files_of c.args.tables.now) (binding_view c.args.binding.now)) c.loop-file.file c.args.piece.end
    c.loop-file.parts.items _ (omega arith) c.loop-file.invariant
