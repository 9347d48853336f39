use Rattle.std.proofs.Common.{◌≡◌, ◌++◌, drop}
use Rattle.lk_tables.specs.Frames.{lists_of}
use Rattle.link_sections.specs.Views.{binding_in, files_in, laid_in, leaders_in}
use Rattle.eh_frame.specs.Bytes.{fdes_bytes}
use Rattle.eh_frame.proofs.contents.push_fdes.Given as goal

abbrev pub invariant-loop-k : goal.invariant-loop-k
invariant-loop-k l =
    let bytes = fdes_bytes (files_in l.view) (binding_in l.view) (leaders_in l.view) (laid_in l.view) (lists_of l.frames) l.start l.cies in
    l.out.items ++ bytes (drop l.k l.fdes) (drop l.k l.uses) ≡ l.fn.out.items ++ bytes l.fdes l.uses
