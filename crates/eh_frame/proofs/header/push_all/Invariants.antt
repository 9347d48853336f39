use Rattle.std.proofs.Common.{◌≡◌, ◌++◌, drop, map}
use Rattle.lk_tables.specs.Frames.{lists_of}
use Rattle.link_sections.specs.Views.{binding_in, files_in, laid_in, leaders_in}
use Rattle.eh_frame.specs.Header.{row_of}
use Rattle.eh_frame.proofs.header.push_all.Given as goal

abbrev pub invariant-loop-fde : goal.invariant-loop-fde
invariant-loop-fde l =
    let row = row_of (files_in l.view) (binding_in l.view) (leaders_in l.view) (laid_in l.view) (lists_of l.frames) l.starts.header l.starts.frames in
    l.rows.items ++ map row (drop l.fde-index l.fdes) ≡ l.fn.rows.items ++ map row l.fdes
