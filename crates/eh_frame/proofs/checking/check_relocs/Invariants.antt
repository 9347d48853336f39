use Rattle.std.proofs.Common.{◌≡◌, drop, flat_map}
use Rattle.link_sections.specs.Views.{binding_in, files_in, laid_in, leaders_in}
use Rattle.eh_frame.specs.Bytes.{reloc_defects}
use Rattle.eh_frame.proofs.checking.check_relocs.Given as goal

abbrev pub invariant-loop-reloc : goal.invariant-loop-reloc
invariant-loop-reloc l =
    let defects = reloc_defects (files_in l.view) (binding_in l.view) (leaders_in l.view) (laid_in l.view) l.place l.from l.address in
    flat_map defects (drop l.reloc-index l.relocs) ≡ flat_map defects l.relocs
