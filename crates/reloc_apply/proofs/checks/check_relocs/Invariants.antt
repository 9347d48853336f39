use Rattle.std.proofs.Common.{◌≡◌, ℕ, List, ◌-◌, flat_map, get_or}
use Rattle.std.specs.List.{range_with_len}
use Rattle.lk_base.specs.declared.defects.Defect.{Defect}
use Rattle.lk_tables.specs.Files.{no_reloc}
use Rattle.link_sections.specs.Views.{binding_in, files_in, laid_in, leaders_in}
use Rattle.reloc_apply.specs.Relocated.{reloc_defects}
use Rattle.reloc_apply.proofs.checks.check_relocs.Given as goal

abbrev pub invariant-loop-k : goal.invariant-loop-k
invariant-loop-k l =
    let f : ℕ → List Defect = λ x. reloc_defects (files_in l.view) (binding_in l.view) (leaders_in l.view) (laid_in l.view) l.site.section (get_or l.relocs (x - 1) no_reloc) (get_or l.relocs x no_reloc) in
    flat_map f (range_with_len l.k (l.to - l.k)) ≡ flat_map f (range_with_len l.from (l.to - l.from))
