-- Unwind records as plain lists.
use Rattle.std.specs.Prelude.{List, map}
use Rattle.lk_tables.specs.declared.records.Record.{Record}
use Rattle.lk_tables.specs.Records.{RecordView}

abbrev pub record_view : Record → RecordView
record_view r = record { from = r.from; len = r.len; cie = r.cie; relocs = r.relocs.items }

abbrev pub record_views : List Record → List RecordView
record_views records = map record_view records
