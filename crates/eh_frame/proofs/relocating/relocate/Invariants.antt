use Rattle.std.proofs.Common.{◌≡◌, drop, length}
use Rattle.link_sections.specs.Views.{binding_in, files_in, laid_in, leaders_in}
use Rattle.eh_frame.specs.Bytes.{relocated}
use Rattle.eh_frame.proofs.relocating.relocate.Given as goal

abbrev pub invariant-loop-reloc : goal.invariant-loop-reloc
invariant-loop-reloc l = record {
  size : length l.bytes ≡ length l.fn.bytes;
  rest : relocated (files_in l.view) (binding_in l.view) (leaders_in l.view) (laid_in l.view) l.file l.from l.address (drop l.reloc-index l.relocs) l.bytes
      ≡ relocated (files_in l.view) (binding_in l.view) (leaders_in l.view) (laid_in l.view) l.file l.from l.address l.relocs l.fn.bytes;
}
