use Rattle.sec_graph.proofs.undefined_symbols.check_reloc.Goals as goal

pub is_needed-requires : goal.is_needed-requires
is_needed-requires c = c.args.test.now.framed
