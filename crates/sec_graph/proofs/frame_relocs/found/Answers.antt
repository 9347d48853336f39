use Rattle.std.proofs.Common.{sym}
use Rattle.lk_tables.specs.Frames.{lists_of}
use Rattle.lk_tables.specs.RecordViews.{record_view}
use Rattle.lk_tables.specs.TablesView.{files_of}
use Rattle.sec_graph.proofs.FoundRecords.{found_below}
use Rattle.sec_graph.proofs.frame_relocs.found.Goals as goal

pub place_of-file-requires : goal.place_of-file-requires
place_of-file-requires c =
    found_below (files_of c.args.tables.now) (lists_of c.args.frames.now) c.args.number (record_view c.in_ok-held.held.now) c.requires.within (sym c.in_ok-held.ensures)
