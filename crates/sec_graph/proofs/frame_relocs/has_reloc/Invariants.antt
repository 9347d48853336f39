use Rattle.std.proofs.Common.{◌≡◌, drop}
use Rattle.std.specs.List.{list_any}
use Rattle.sec_graph.specs.FrameRelocs.{same_reloc}
use Rattle.sec_graph.proofs.frame_relocs.has_reloc.Given as goal

abbrev pub invariant-loop-other : goal.invariant-loop-other
invariant-loop-other l = list_any (same_reloc l.reloc) (drop l.other-index l.relocs) ≡ list_any (same_reloc l.reloc) l.relocs
