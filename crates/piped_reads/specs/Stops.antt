-- What the steps of reading a file answer.
use Rattle.std.specs.Prelude.{◌≡◌, ℕ, Option, List, Result, Ok, Err}
use Rattle.std.specs.Global.{Vec}
use Rattle.lk_base.specs.declared.defects.ReadFault.{ReadFault}
use Rattle.lk_base.specs.declared.defects.ReadFault.TheVariants as faults
use Rattle.lk_tables.specs.Heads.{HeadView}
use Rattle.lk_tables.specs.declared.heads.Head.{Head}
use Rattle.piped_reads.specs.Readings.{Reading, flaw_of_member, heads_seen}
use Rattle.piped_reads.specs.declared.files.PipedFlaw.{PipedFlaw}
use Rattle.piped_reads.specs.declared.reading.HeadsStop.{HeadsStop}
use Rattle.piped_reads.specs.declared.reading.HeadsStop.TheVariants.{Flawed, Memory}
use Rattle.piped_reads.specs.declared.reading.Parsed.{Parsed}

abbrev pub parsed_view : Parsed → Reading
parsed_view parsed = record { members = parsed.members.items; heads = heads_seen parsed.heads.items; flaw = parsed.flaw }

-- why the members of an archive have no heads, if the one at a place has none
abbrev pub stop_at : ℕ → ReadFault → HeadsStop
stop_at place (faults.Bad flaw) = Flawed (flaw_of_member place flaw)
stop_at place faults.Memory = Memory

abbrev pub StopsSo : HeadsStop → Result (List (Option HeadView)) PipedFlaw → Type 0
StopsSo (Flawed flaw) heads = heads ≡ Err flaw
StopsSo Memory heads = Unit {0}

-- the heads are these, or the flaw is theirs, or memory ran out
abbrev pub AreHeadsFrom : Result (Vec (Option Head)) HeadsStop → Result (List (Option HeadView)) PipedFlaw → Type 0
AreHeadsFrom (Ok list) heads = heads ≡ Ok (heads_seen list.items)
AreHeadsFrom (Err stop) heads = StopsSo stop heads
