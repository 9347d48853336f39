use Rattle.std.proofs.Common.{◌≡◌, ◌++◌, drop, flat_map}
use Rattle.lk_tables.specs.Frames.{lists_of}
use Rattle.link_sections.specs.Views.{binding_in, files_in, laid_in, leaders_in}
use Rattle.eh_frame.specs.Bytes.{cie_bytes}
use Rattle.eh_frame.proofs.contents.push_cies.Given as goal

abbrev pub invariant-loop-cie : goal.invariant-loop-cie
invariant-loop-cie l =
    let bytes = cie_bytes (files_in l.view) (binding_in l.view) (leaders_in l.view) (laid_in l.view) (lists_of l.frames) l.start in
    l.out.items ++ flat_map bytes (drop l.cie-index l.cies) ≡ l.fn.out.items ++ flat_map bytes l.cies
