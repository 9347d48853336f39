use Rattle.std.proofs.Common.{append_assoc}
use Rattle.elf_fields.specs.Headers.{section_header}
use Rattle.elf_fields.proofs.headers.push_section_header.Goals as goal

pub returns : goal.returns
unfolding section_header
returns c =
    rw (c.in_ok-push_long-6.ensures, c.in_ok-push_long-5.ensures, c.in_ok-push_word-4.ensures, c.in_ok-push_word-3.ensures, c.in_ok-push_long-4.ensures, c.in_ok-push_long-3.ensures, c.in_ok-push_long-2.ensures, c.in_ok-push_long.ensures, c.in_ok-push_word-2.ensures, c.in_ok-push_word.ensures)
    (simp append_assoc)
