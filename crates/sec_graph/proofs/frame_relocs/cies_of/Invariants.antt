use Rattle.std.proofs.Common.{◌≡◌, [], map, take}
use Rattle.std.specs.Prelude.{fold}
use Rattle.lk_tables.specs.Frames.{lists_of}
use Rattle.sec_graph.specs.FrameKeys.{numbers_of}
use Rattle.sec_graph.specs.FrameRelocs.{cie_no, with_no}
use Rattle.sec_graph.proofs.frame_relocs.cies_of.Given as goal

abbrev pub invariant-loop-i : goal.invariant-loop-i
invariant-loop-i l = numbers_of l.cies ≡ fold with_no [] (map (cie_no (lists_of l.frames)) (take l.i l.fdes))
