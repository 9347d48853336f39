-- How an ending inside the program is reported, and what the steps of a run hand on.
use Rattle.std.specs.Prelude.{◌≡◌, ℕ, ◌<◌, ◌≤◌, List, [], length, take, Option, None, Some}
use Rattle.lk_depot.specs.Faults.{Rose}
use Rattle.lk_depot.specs.Store.{Store}
use Rattle.lk_depot.specs.Output.{Output, said_if_seen}
use Rattle.lk_depot.specs.Loading.{AreContents, name_at}
use Rattle.lk_depot.specs.declared.stops.LoadAllStop.{LoadAllStop}
use Rattle.lk_depot.specs.declared.stops.LoadAllStop.TheVariants as loads
use Rattle.lk_base.specs.declared.defects.LinkStop.{LinkStop}
use Rattle.lk_base.specs.declared.defects.LinkStop.TheVariants as stops
use Rattle.link_driver.specs.declared.driving.Ending.{Ending}
use Rattle.link_driver.specs.declared.driving.Ending.TheVariants.{Done, Memory, Refused, Unreported, Defective, Unread, Unwritten}
use Rattle.link_driver.specs.declared.diagnostics.Lines.{Lines}
use Rattle.link_command.specs.Command.{CommandView}
use Rattle.link_driver.specs.Link.{bad_command, cannot_read, cannot_report, cannot_write, line_of_defect}
use Rattle.link_driver.specs.Linked.{LinkedView}
use Rattle.link_driver.specs.Phases.{IsLinked}
use Rattle.link_driver.specs.Ends.{IsUntouched}

abbrev pub status_of : Ending → ℕ
status_of Done = 0
status_of Memory = 4
status_of Refused = 2
status_of Unreported = 3
status_of (Defective line) = 1
status_of (Unread line) = 3
status_of (Unwritten line) = 3

abbrev pub reported_line : Ending → List ℕ
reported_line Done = []
reported_line Memory = []
reported_line Refused = bad_command
reported_line Unreported = cannot_report
reported_line (Defective line) = line.bytes.items
reported_line (Unread line) = line.bytes.items
reported_line (Unwritten line) = line.bytes.items

-- a defect is reported by this line, or memory ran out
abbrev pub ReportsDefect : List ℕ → Ending → Type 0
ReportsDefect line Memory = Unit {0}
ReportsDefect line (Defective told) = told.bytes.items ≡ line
ReportsDefect line _ = ⊥

-- an input that could not be read is reported by this line, or memory ran out
abbrev pub ReportsUnread : List ℕ → Ending → Type 0
ReportsUnread line Memory = Unit {0}
ReportsUnread line (Unread told) = told.bytes.items ≡ line
ReportsUnread line _ = ⊥

-- why there is no link
abbrev pub ReportsStop : CommandView → List (List ℕ) → LinkStop → Ending → Type 0
ReportsStop asked inputs (stops.Defect defect) ending = ReportsDefect (line_of_defect asked inputs defect) ending
ReportsStop asked inputs stops.Memory ending = ending ≡ Memory

-- why the inputs were not loaded
abbrev pub ReportsLoadStop : CommandView → LoadAllStop → Ending → Type 0
ReportsLoadStop asked (loads.Absent index) ending = ReportsUnread (cannot_read (name_at asked.inputs index)) ending
ReportsLoadStop asked (loads.Failed index) ending = ReportsUnread (cannot_read (name_at asked.inputs index)) ending
ReportsLoadStop asked loads.Memory ending = ending ≡ Memory

-- the input that was not loaded is one of these
abbrev pub IsWithin : List (List ℕ) → LoadAllStop → Type 0
IsWithin names (loads.Absent index) = index < length names
IsWithin names (loads.Failed index) = index < length names
IsWithin names loads.Memory = Unit {0}

-- the report was said, or some of its first bytes
abbrev pub AfterReport : List ℕ → Output → Output → Ending → Type 0
AfterReport report before after Done = after.written ≡ said_if_seen report before.written
AfterReport report before after Unreported =
    Rose before.faults after.faults × ((size : ℕ) × (size < length report) × (after.written ≡ said_if_seen (take size report) before.written))
AfterReport report before after _ = ⊥

-- the line about the map, without a name where none is asked
abbrev pub map_line : Option (List ℕ) → List ℕ
map_line None = cannot_write []
map_line (Some name) = cannot_write name

-- the lines for files that may fail
pub record AreLines (asked : CommandView) (lines : Lines) : Type 0 where
  pub output : lines.output.bytes.items ≡ cannot_write asked.output
  pub map : lines.map.bytes.items ≡ map_line asked.map

-- since the store `before`, the inputs were loaded, and nothing else was done
pub record AreLoaded (asked : CommandView) (before now : Store) (inputs : List (List ℕ)) : Type 0 where
  pub loaded : AreContents before.files asked.inputs inputs
  pub unread : now.unread ≡ before.unread
  pub untouched : IsUntouched before now
  pub faults : before.faults ≤ now.faults

-- and they were linked
pub record IsReady (asked : CommandView) (before now : Store) (inputs : List (List ℕ)) (linked : LinkedView) : Type 0 where
  pub inputs_are : AreLoaded asked before now inputs
  pub is_link : IsLinked asked inputs linked
