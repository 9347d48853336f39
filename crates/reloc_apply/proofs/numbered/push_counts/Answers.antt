use Rattle.std.proofs.Common.{ap, arith, length, List}
use Rattle.lk_tables.specs.declared.objects.Reloc.{Reloc}
use Rattle.lk_tables.specs.Files.{file_at, relocs_at, section_count}
use Rattle.lk_tables.specs.TablesView.{files_of}
use Rattle.lk_tables.proofs.FirstNumbers.{section_within}
use Rattle.lk_base.proofs.Ranges.{row_step}
use Rattle.reloc_apply.proofs.numbered.push_counts.Goals as goal

pub overflow_cast-section : goal.overflow_cast-section
overflow_cast-section c =
    omega (
      arith,
      c.section_count-section-end.ensures,
      ap section_count c.file.ensures,
      c.prove_few.ensures.section_count_is,
      section_within (files_of c.args.tables.now) c.args.file c.requires,
    )

pub loop-section-preserved : goal.loop-section-preserved
loop-section-preserved c =
    row_step (λ k. length (relocs_at (file_at (files_of c.args.tables.now) c.args.file) k)) c.loop-section.section
    c.args.counts.now.items c.loop-section.counts.items c.push.new.self.items (length c.relocs.result.now) c.loop-section.invariant c.in_ok-push.ensures.items
    (ap (λ (l : List Reloc). length l) c.relocs.ensures)
