use Rattle.std.proofs.Common.{◌/◌, ◌<◌, length, ap, arith, rules}
use Rattle.lk_base.specs.declared.abi.TheConstants.{RELA_SIZE}
use Rattle.lk_tables.specs.declared.heads.Section.{Section}
use Rattle.eh_frame.proofs.EntryOrder.{count_is, no_entry, number_low, place_is}
use Rattle.eh_frame.proofs.sections.entry_place.Goals as goal
use Rattle.eh_frame.proofs.sections.entry_place.Goals.{After-number_at-entry}

low : (c : After-number_at-entry) → c.number_at-entry.result < c.args.rela.now.size / RELA_SIZE
low c =
    let lt = number_low c.args.bytes.now c.args.index c.in_ok-entries.entries.items c.as_slice.result.now c.args.number no_entry
    c.as_slice.ensures.value c.in_ok-entries.ensures c.requires.number in
    omega (arith, lt, c.number_at-entry.ensures no_entry, ap (λ (s : Section). s.size) c.requires.rela)

pub number_at-entry-requires : goal.number_at-entry-requires
number_at-entry-requires c =
    omega (arith, c.requires.number, count_is c.args.bytes.now c.args.index c.in_ok-entries.entries.items c.in_ok-entries.ensures, ap length c.as_slice.ensures.value)

pub overflow_mul-result : goal.overflow_mul-result
overflow_mul-result c = let lt = low (goal.at.overflow_mul-result c).After-number_at-entry in search (rules, lt)

pub overflow_add-result : goal.overflow_add-result
overflow_add-result c = let lt = low (goal.at.overflow_add-result c).After-number_at-entry in search (rules, lt)

pub returns : goal.returns
returns c =
    place_is c.args.bytes.now c.args.index c.args.rela.now c.in_ok-entries.entries.items c.as_slice.result.now c.args.number c.number_at-entry.result
    c.requires.rela c.as_slice.ensures.value c.in_ok-entries.ensures c.requires.number (c.number_at-entry.ensures no_entry)
