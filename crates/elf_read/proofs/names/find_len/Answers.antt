use Rattle.std.proofs.Common.{rules, sym, ◌-◌}
use Rattle.lk_tables.proofs.SoundHead.{name_ends}
use Rattle.elf_read.proofs.LastNames.{later_len}
use Rattle.elf_read.proofs.names.find_len.Goals as goal

pub returns-then-at-last-clause-within : goal.returns-then-at-last-clause-within
returns-then-at-last-clause-within c =
    let a = c.args in
    name_ends a.bytes.now a.from a.size a.at (a.last.now.end - a.at) (c.requires.last a.at (search rules) (search rules))

pub returns-clause-last : goal.returns-clause-last
returns-clause-last c = λ next low high.
    later_len c.args.bytes.now c.args.from c.args.size c.args.at c.in_ok-len.len next (sym c.in_ok-len.ensures.value) low high
