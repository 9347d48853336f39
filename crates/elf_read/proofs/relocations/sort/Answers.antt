use Rattle.std.proofs.Common.{◌<◌, ◌^◌, List, sym, subst, ◌∙◌}
use Rattle.std.specs.List.{All}
use Rattle.lk_tables.specs.declared.objects.Reloc.{Reloc}
use Rattle.lk_tables.specs.Relocations.{end_of}
use Rattle.elf_read.proofs.Overlaps.{sorted_entries, sorted_relocs, all_sorted}
use Rattle.elf_read.proofs.relocations.sort.Goals as goal

pub check_sorted-requires-clause-entries : goal.check_sorted-requires-clause-entries
check_sorted-requires-clause-entries c =
    c.as_slice-2.ensures.value ∙ c.in_ok-entries.ensures ∙ sorted_entries c.args.file.now.bytes.now c.args.index c.args.relocs.now c.requires.relocs

pub check_sorted-requires-clause-relocs : goal.check_sorted-requires-clause-relocs
check_sorted-requires-clause-relocs c =
    c.as_slice-3.ensures.value
    ∙ sorted_relocs c.args.file.now.bytes.now c.args.index c.args.relocs.now _ _ c.requires.relocs (c.as_slice.ensures.value ∙ c.in_ok-entries.ensures) c.in_ok-sorted.ensures

pub check_sorted-requires-clause-ends : goal.check_sorted-requires-clause-ends
check_sorted-requires-clause-ends c =
    let b = c.args.file.now.bytes.now in
    let P : Reloc → Type 0 = λ r. end_of c.args.contents.now r < 2 ^ 64 in
    let is = c.as_slice-3.ensures.value
    ∙ sorted_relocs b c.args.index c.args.relocs.now _ _ c.requires.relocs (c.as_slice.ensures.value ∙ c.in_ok-entries.ensures) c.in_ok-sorted.ensures in
    subst (λ (rs : List Reloc). All P rs) (sym is) (all_sorted b c.args.index P c.args.relocs.now c.requires.relocs c.requires.ends)

pub check_sorted_pairs-requires-clause-entries : goal.check_sorted_pairs-requires-clause-entries
check_sorted_pairs-requires-clause-entries c =
    c.as_slice-4.ensures.value ∙ c.in_ok-entries.ensures ∙ sorted_entries c.args.file.now.bytes.now c.args.index c.args.relocs.now c.requires.relocs

pub check_sorted_pairs-requires-clause-relocs : goal.check_sorted_pairs-requires-clause-relocs
check_sorted_pairs-requires-clause-relocs c =
    c.as_slice-5.ensures.value
    ∙ sorted_relocs c.args.file.now.bytes.now c.args.index c.args.relocs.now _ _ c.requires.relocs (c.as_slice.ensures.value ∙ c.in_ok-entries.ensures) c.in_ok-sorted.ensures

pub returns-clause-list : goal.returns-clause-list
returns-clause-list c =
    sorted_relocs c.args.file.now.bytes.now c.args.index c.args.relocs.now _ _ c.requires.relocs (c.as_slice.ensures.value ∙ c.in_ok-entries.ensures) c.in_ok-sorted.ensures
