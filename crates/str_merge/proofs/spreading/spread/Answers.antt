use Rattle.std.proofs.Common.{sym, ◌∙◌, arith, rules}
use Rattle.lk_tables.specs.TablesView.{files_of}
use Rattle.lk_tables.proofs.ByNumber.{section_rows_all, section_rows_step}
use Rattle.str_merge.specs.Spreading.{answer_in, spread}
use Rattle.str_merge.proofs.SpreadSteps.{before_none}
use Rattle.str_merge.proofs.spreading.spread.Goals as goal

pub loop-file-init : goal.loop-file-init
loop-file-init c = record { list = search rules; next = sym (before_none (files_of c.args.tables.now) c.args.kept.now) }

pub loop-file-preserved : goal.loop-file-preserved
loop-file-preserved c = record {
  list = section_rows_step (files_of c.args.tables.now) (answer_in (files_of c.args.tables.now) c.args.kept.now c.args.answers.now) c.loop-file.file
      c.loop-file.list.items c.spread_file.new.list.items c.loop-file.invariant.list c.in_ok-next.ensures.list;
  next = c.in_ok-next.ensures.next;
}

pub returns : goal.returns
unfolding spread
returns c =
    c.loop-file.invariant.list
    ∙ section_rows_all (files_of c.args.tables.now) (answer_in (files_of c.args.tables.now) c.args.kept.now c.args.answers.now) c.loop-file.file (omega arith)
