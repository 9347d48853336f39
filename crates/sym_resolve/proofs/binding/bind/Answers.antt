use Rattle.lk_tables.specs.TablesView.{files_of}
use Rattle.sym_resolve.proofs.Lawful.{lawful_binding}
use Rattle.sym_resolve.proofs.binding.bind.Goals as goal

pub returns-in-Some-names-clause-least : goal.returns-in-Some-names-clause-least
returns-in-Some-names-clause-least g c =
    lawful_binding (files_of c.args.tables.now) c.args.discarded.now c.args.entry.now c.bind_names.result c.prove_few.ensures.file_count c.prove_few.ensures.symbol_count c.bind_names.ensures.bound

pub returns-clause-least : goal.returns-clause-least
returns-clause-least g c =
    lawful_binding (files_of c.args.tables.now) c.args.discarded.now c.args.entry.now c.bind_names-2.result c.prove_few.ensures.file_count c.prove_few.ensures.symbol_count c.bind_names-2.ensures.bound
