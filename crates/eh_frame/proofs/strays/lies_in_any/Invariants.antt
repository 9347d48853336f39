use Rattle.std.proofs.Common.{◌≡◌, Bool, drop}
use Rattle.std.specs.List.{list_any}
use Rattle.lk_tables.specs.declared.records.Record.{Record}
use Rattle.eh_frame.specs.RecordChecks.{lies_in}
use Rattle.eh_frame.proofs.strays.lies_in_any.Given as goal

abbrev pub invariant-loop-frame : goal.invariant-loop-frame
invariant-loop-frame l =
    let has : Record → Bool = λ r. lies_in l.reloc r.from r.len in
    list_any has (drop l.frame-index l.records) ≡ list_any has l.records
