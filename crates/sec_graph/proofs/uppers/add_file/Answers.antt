use Rattle.std.proofs.Common.{◌++◌, ◌∷◌, [], List, ap, arith, map, refl, subst}
use Rattle.std.specs.Prelude.{filter}
use Rattle.std.specs.List.{range_with_len}
use Rattle.lk_base.specs.RelocKinds.{is_upper}
use Rattle.lk_tables.specs.declared.objects.Reloc.{Reloc}
use Rattle.lk_tables.specs.Files.{section_count}
use Rattle.lk_tables.specs.TablesView.{files_of}
use Rattle.lk_tables.specs.Uppers.{AreListed, uppers_at}
use Rattle.lk_tables.proofs.FirstNumbers.{section_within}
use Rattle.lk_base.proofs.Ranges.{row_step}
use Rattle.sec_graph.proofs.uppers.add_file.Goals as goal

pub overflow_cast-section : goal.overflow_cast-section
overflow_cast-section c =
    omega (
      arith,
      c.section_count-section-end.ensures,
      ap section_count c.file.ensures,
      c.prove_few.ensures.section_count_is,
      section_within (files_of c.args.tables.now) c.args.file c.requires,
    )

pub loop-section-preserved : goal.loop-section-preserved
loop-section-preserved c = λ lists listed.
    let give = uppers_at (files_of c.args.tables.now) c.args.file in
    let n = c.loop-section.section in
    let old : List (List Reloc) = lists ++ map give (range_with_len 0 n) in
    let test = λ (r : Reloc). is_upper r.kind in
    let new : List Reloc = filter test c.relocs.result.now in
    let P : List (List Reloc) → Type 0 = λ l. AreListed l c.add_section.new.uppers in
    subst P (row_step give n lists old (old ++ new ∷ []) new refl refl (ap (filter test) c.relocs.ensures))
    (c.in_ok-add_section.ensures old (c.loop-section.invariant lists listed))
