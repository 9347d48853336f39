use Rattle.std.proofs.Common.{◌++◌, ap, ◌∙◌}
use Rattle.elf_fields.specs.Symbols.{symbol_entry}
use Rattle.elf_out.specs.Symbols.{entry_bytes}
use Rattle.elf_out.proofs.symbols.push_symbol.Goals as goal

pub returns : goal.returns
unfolding entry_bytes
returns c = c.in_ok-push_symbol_entry.ensures ∙ ap (λ e. c.args.out.now.items ++ symbol_entry e) c.entry_of.ensures
