use Rattle.std.proofs.Common.{append_assoc}
use Rattle.link_gen.specs.Generated.{symbol_table}
use Rattle.link_gen.proofs.symbols.push_symbol_table.Goals as goal

pub returns : goal.returns
unfolding symbol_table
returns c = rw (c.in_ok-push_entries.ensures, c.in_ok-push_entry-2.ensures, c.in_ok-push_entry.ensures) (simp append_assoc)
