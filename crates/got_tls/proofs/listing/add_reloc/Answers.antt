use Rattle.lk_tables.specs.TablesView.{files_of}
use Rattle.got_tls.proofs.Keys.{key_low}
use Rattle.got_tls.proofs.listing.add_reloc.Goals as goal
use Rattle.std.proofs.Common.{arith}

pub add-requires : goal.add-requires
add-requires c =
    omega (arith, c.key_of.ensures, key_low (files_of c.args.tables.now) c.args.file c.args.reloc.now.symbol c.prove_few.ensures c.requires.file c.requires.symbol)
