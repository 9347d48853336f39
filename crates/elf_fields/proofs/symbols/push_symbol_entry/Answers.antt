use Rattle.std.proofs.Common.{append_assoc}
use Rattle.elf_fields.specs.Symbols.{symbol_entry}
use Rattle.elf_fields.proofs.symbols.push_symbol_entry.Goals as goal

pub returns : goal.returns
unfolding symbol_entry
returns c =
    rw (c.in_ok-push_long-2.ensures, c.in_ok-push_long.ensures, c.in_ok-push_half.ensures, c.in_ok-push-2.ensures.items, c.in_ok-push.ensures.items, c.in_ok-push_word.ensures)
    (simp append_assoc)
