use Rattle.std.proofs.Common.{◌≡◌, ◌-◌, flat_map}
use Rattle.std.specs.List.{range_with_len}
use Rattle.lk_tables.specs.Files.{section_total}
use Rattle.lk_tables.specs.Sites.{relocs_of}
use Rattle.link_sections.specs.Views.{binding_in, files_in, laid_in, leaders_in}
use Rattle.reloc_apply.proofs.NumberWalks.{given_at, left, own_defects}
use Rattle.reloc_apply.proofs.checks.check_numbers.Given as goal

abbrev pub invariant-loop-section : goal.invariant-loop-section
invariant-loop-section l =
    let relocs = relocs_of (files_in l.view) in
    let f = own_defects (files_in l.view) (binding_in l.view) (leaders_in l.view) (laid_in l.view) in
    let total = section_total (files_in l.view) in
    left relocs f total l.fn.piece.start l.fn.piece.end l.section
    ≡ flat_map (given_at relocs f total) (range_with_len l.fn.piece.start (l.fn.piece.end - l.fn.piece.start))
