use Rattle.std.proofs.Common.{◌≡◌, drop, flat_map}
use Rattle.lk_tables.specs.Frames.{lists_of}
use Rattle.link_sections.specs.Views.{binding_in, files_in, laid_in, leaders_in}
use Rattle.eh_frame.specs.Bytes.{placed_defects}
use Rattle.eh_frame.proofs.checking.first_in.Given as goal

abbrev pub invariant-loop-record : goal.invariant-loop-record
invariant-loop-record l =
    let defects = placed_defects (files_in l.view) (binding_in l.view) (leaders_in l.view) (laid_in l.view) (lists_of l.frames) l.start in
    flat_map defects (drop l.record-index l.placed) ≡ flat_map defects l.placed
