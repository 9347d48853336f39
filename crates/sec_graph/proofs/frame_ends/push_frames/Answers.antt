use Rattle.std.proofs.Common.{◌∙◌, ◌++◌, length, ap, sym, append-nil}
use Rattle.std.proofs.lemmas.Bool.{eqb-true}
use Rattle.std.proofs.lemmas.List.{nil_from_length}
use Rattle.lk_tables.specs.BindingView.{binding_view}
use Rattle.lk_tables.specs.TablesView.{files_of}
use Rattle.sec_graph.specs.Graph.{frame_ends}
use Rattle.sec_graph.proofs.FramePushes.{both_named, none_named_by}
use Rattle.sec_graph.proofs.frame_ends.push_frames.Goals as goal

pub returns-then-is_empty : goal.returns-then-is_empty
unfolding frame_ends
returns-then-is_empty c =
    sym (append-nil c.args.ends.now.items)
    ∙ ap (λ l. c.args.ends.now.items ++ l)
    (sym (none_named_by (files_of c.args.tables.now) (binding_view c.args.binding.now) c.args.fdes.now (nil_from_length c.args.fdes.now (eqb-true (length c.args.fdes.now) 0 (sym c.is_empty.ensures ∙ c.if-is_empty.true)))))

pub returns : goal.returns
unfolding frame_ends
returns c =
    both_named (files_of c.args.tables.now) (binding_view c.args.binding.now) c.args.fdes.now c.args.ends.now.items c.push_fdes.new.ends.items c.push_cies.new.ends.items
    c.in_ok-push_fdes.ensures c.in_ok-push_cies.ensures
