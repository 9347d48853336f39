use Rattle.lk_tables.specs.LinkerSymbols.{start_prefix, stop_prefix}
use Rattle.sym_resolve.proofs.NamedSections.{identifier_is}
use Rattle.sym_resolve.proofs.linker.edge_no.Goals as goal

pub section_of-requires-clause-identifier : goal.section_of-requires-clause-identifier
section_of-requires-clause-identifier c = identifier_is start_prefix c.args.name.now c.start_of.result c.start_of.ensures

pub section_of-requires-2-clause-identifier : goal.section_of-requires-2-clause-identifier
section_of-requires-2-clause-identifier c = identifier_is stop_prefix c.args.name.now c.stop_of.result c.stop_of.ensures
