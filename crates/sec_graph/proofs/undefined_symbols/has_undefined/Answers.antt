use Rattle.std.proofs.Common.{ap, arith, length}
use Rattle.lk_tables.specs.BindingView.{binding_view}
use Rattle.lk_tables.specs.Files.{File}
use Rattle.lk_tables.specs.TablesView.{files_of}
use Rattle.lk_tables.proofs.FirstNumbers.{first_within}
use Rattle.sec_graph.proofs.Unbound.{none_of}
use Rattle.sec_graph.proofs.undefined_symbols.has_undefined.Goals as goal

pub overflow_cast-symbol : goal.overflow_cast-symbol
overflow_cast-symbol c =
    omega (
      arith,
      ap length c.symbols-symbols.ensures,
      ap (λ (file : File). length file.head.symbols) c.file.ensures,
      c.prove_few.ensures.symbol_count,
      first_within (files_of c.args.test.now.tables.now) c.args.file c.requires,
    )

pub returns : goal.returns
returns c = λ _.
    none_of (files_of c.args.test.now.tables.now) (binding_view c.args.test.now.binding.now) c.args.file
    (λ i lt. c.loop-symbol.invariant i
    (omega (arith, lt, c.loop-symbol-test.false, ap length c.symbols-symbols.ensures, ap (λ (file : File). length file.head.symbols) c.file.ensures)))
