use Rattle.std.proofs.Common.{ap, arith, length}
use Rattle.lk_base.proofs.Loops.{collect_step}
use Rattle.lk_tables.specs.BindingView.{binding_view}
use Rattle.lk_tables.specs.Files.{File}
use Rattle.lk_tables.specs.TablesView.{files_of}
use Rattle.lk_tables.proofs.FirstNumbers.{first_within}
use Rattle.sec_graph.specs.NamedSections.{asked_at}
use Rattle.sec_graph.proofs.named_sections.push_asked.Goals as goal

pub overflow_cast-symbol : goal.overflow_cast-symbol
overflow_cast-symbol c =
    omega (
      arith,
      ap length c.symbols-symbol-end.ensures,
      ap (λ (file : File). length file.head.symbols) c.file-2.ensures,
      c.prove_few.ensures.symbol_count,
      first_within (files_of c.args.tables.now) c.args.file c.requires,
    )

pub loop-symbol-preserved : goal.loop-symbol-preserved
loop-symbol-preserved c =
    collect_step (asked_at (files_of c.args.tables.now) (binding_view c.args.binding.now) c.args.file) c.loop-symbol.symbol (length c.symbols-symbol-end.result.now)
    c.loop-symbol.asked.items c.push_one.new.asked.items _ (omega arith) c.loop-symbol.invariant c.in_ok-push_one.ensures
