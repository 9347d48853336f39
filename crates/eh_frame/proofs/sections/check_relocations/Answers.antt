use Rattle.std.proofs.Common.{length, ap, sym, ◌∙◌, arith}
use Rattle.lk_tables.specs.Files.{no_section}
use Rattle.lk_tables.specs.Heads.{head_view}
use Rattle.lk_tables.proofs.SoundHead.{head_of_is}
use Rattle.eh_frame.proofs.StrayChecks.{all_fine, in_entries, is_found, rela_facts, rela_is, stray_is_first, there_is_one}
use Rattle.eh_frame.proofs.sections.check_relocations.Goals as goal

pub returns-in_default : goal.returns-in_default
returns-in_default c = all_fine c.args.bytes.now c.args.contents.now c.args.section c.args.relocs.now c.requires.relocs c.in_default.ensures.value

pub rela_of-requires : goal.rela_of-requires
rela_of-requires c =
    omega (arith, (head_of_is c.args.bytes.now (head_view c.args.head.now) c.requires.head).few, ap length c.as_slice.ensures.value)

pub returns-in_default-rela_of : goal.returns-in_default-rela_of
returns-in_default-rela_of c =
    absurd (there_is_one c.args.bytes.now (head_view c.args.head.now) c.args.section c.args.relocs.now c.in-Some.number c.as_slice.result.now
    c.requires.head c.requires.relocs c.in-Some.ensures.within c.as_slice.ensures.value (sym c.in_default-rela_of.is ∙ c.rela_of.ensures))

pub section_at-header-requires : goal.section_at-header-requires
section_at-header-requires c =
    let e = is_found c.args.bytes.now (head_view c.args.head.now) c.args.section c.args.relocs.now c.in-Some.number c.as_slice.result.now c.in-Some-rela_of.rela
    c.requires.head c.requires.relocs c.in-Some.ensures.within c.as_slice.ensures.value (sym c.in-Some-rela_of.is ∙ c.rela_of.ensures) in
    omega (arith, rela_is c.args.bytes.now (head_view c.args.head.now) c.args.section c.in-Some-rela_of.rela c.requires.head e, ap length c.as_slice-2.ensures.value)

pub entry_place-requires-clause-rela : goal.entry_place-requires-clause-rela
entry_place-requires-clause-rela c =
    let e = is_found c.args.bytes.now (head_view c.args.head.now) c.args.section c.args.relocs.now c.in-Some.number c.as_slice.result.now c.in-Some-rela_of.rela
    c.requires.head c.requires.relocs c.in-Some.ensures.within c.as_slice.ensures.value (sym c.in-Some-rela_of.is ∙ c.rela_of.ensures) in
    (rela_facts c.args.bytes.now (head_view c.args.head.now) c.args.section c.in-Some-rela_of.rela c.section_at-header.result c.as_slice-2.result.now
    c.requires.head e c.as_slice-2.ensures.value (c.section_at-header.ensures no_section)).is

pub entry_place-requires-clause-within : goal.entry_place-requires-clause-within
entry_place-requires-clause-within c =
    let e = is_found c.args.bytes.now (head_view c.args.head.now) c.args.section c.args.relocs.now c.in-Some.number c.as_slice.result.now c.in-Some-rela_of.rela
    c.requires.head c.requires.relocs c.in-Some.ensures.within c.as_slice.ensures.value (sym c.in-Some-rela_of.is ∙ c.rela_of.ensures) in
    (rela_facts c.args.bytes.now (head_view c.args.head.now) c.args.section c.in-Some-rela_of.rela c.section_at-header.result c.as_slice-2.result.now
    c.requires.head e c.as_slice-2.ensures.value (c.section_at-header.ensures no_section)).within

pub entry_place-requires-clause-number : goal.entry_place-requires-clause-number
entry_place-requires-clause-number c =
    let e = is_found c.args.bytes.now (head_view c.args.head.now) c.args.section c.args.relocs.now c.in-Some.number c.as_slice.result.now c.in-Some-rela_of.rela
    c.requires.head c.requires.relocs c.in-Some.ensures.within c.as_slice.ensures.value (sym c.in-Some-rela_of.is ∙ c.rela_of.ensures) in
    in_entries c.args.bytes.now c.args.section c.args.relocs.now c.in-Some-rela_of.rela c.in-Some.number c.requires.relocs e c.in-Some.ensures.within

pub returns : goal.returns
returns c =
    let e = is_found c.args.bytes.now (head_view c.args.head.now) c.args.section c.args.relocs.now c.in-Some.number c.as_slice.result.now c.in-Some-rela_of.rela
    c.requires.head c.requires.relocs c.in-Some.ensures.within c.as_slice.ensures.value (sym c.in-Some-rela_of.is ∙ c.rela_of.ensures) in
    stray_is_first c.args.bytes.now c.args.contents.now c.args.section c.args.relocs.now c.in-Some-rela_of.rela c.in-Some.number c.in_ok-place.place _
    c.requires.relocs e c.in-Some.ensures.within c.in-Some.ensures.value c.in_ok-place.ensures c.flaw.ensures
