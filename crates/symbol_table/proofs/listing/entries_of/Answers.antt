use Rattle.std.proofs.Common.{arith}
use Rattle.lk_base.proofs.Loops.{collect_step, collect_end}
use Rattle.link_sections.specs.Views.{binding_in, files_in, laid_in, leaders_in}
use Rattle.symbol_table.specs.NamedViews.{named_views}
use Rattle.symbol_table.specs.SymbolTable.{entries_in}
use Rattle.symbol_table.proofs.listing.entries_of.Goals as goal

pub loop-file-preserved : goal.loop-file-preserved
loop-file-preserved c =
    let v = c.args.view.now in
    collect_step (entries_in (files_in v) (binding_in v) v.kept.now (leaders_in v) (laid_in v)) c.loop-file.file c.args.piece.end
    (named_views c.loop-file.list.items) (named_views c.push_file.new.list.items) _ (omega arith) c.loop-file.invariant c.in_ok-push_file.ensures

pub returns : goal.returns
returns c =
    let v = c.args.view.now in
    collect_end (entries_in (files_in v) (binding_in v) v.kept.now (leaders_in v) (laid_in v)) c.loop-file.file c.args.piece.end
    (named_views c.loop-file.list.items) _ (omega arith) c.loop-file.invariant
