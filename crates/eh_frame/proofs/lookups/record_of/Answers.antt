use Rattle.std.proofs.Common.{sym}
use Rattle.lk_tables.specs.Frames.{lists_of}
use Rattle.lk_tables.specs.RecordViews.{record_view}
use Rattle.eh_frame.proofs.ListsFound.{not_none, record_is}
use Rattle.eh_frame.proofs.lookups.record_of.Goals as goal

pub returns : goal.returns
returns c = record_is (lists_of c.args.frames.now) c.args.number (record_view c.in-Some.record.now) (sym c.in-Some.ensures)

pub unreachable-requires : goal.unreachable-requires
unreachable-requires c = not_none _ c.requires.there (sym c.in-None.ensures)
