use Rattle.lk_tables.specs.Frames.{lists_of}
use Rattle.lk_tables.specs.RecordViews.{record_view}
use Rattle.eh_frame.proofs.ListsFound.{record_is}
use Rattle.eh_frame.proofs.lookups.record_near.Goals as goal

pub returns-in-Some : goal.returns-in-Some
returns-in-Some c = record_is (lists_of c.args.frames.now) c.args.number (record_view c.in-Some.record.now) c.in-Some.ensures
