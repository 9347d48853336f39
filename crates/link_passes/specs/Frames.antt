-- The unwind records of the files of a link (LSB Core, "Exception Frames").
use Rattle.std.specs.Prelude.{ℕ, if◌then◌else◌, List, [], length, flat_map}
use Rattle.std.specs.List.{range_with_len}
use Rattle.lk_tables.specs.Files.{File, section_no}
use Rattle.lk_tables.specs.Frames.{RecordList, records_in}

-- the unwind records of section k of a file, if it has some, under its index
abbrev pub list_in : File → (k : ℕ) → List RecordList
list_in file k = records_in file k k

-- the unwind records of all its sections
unfoldable pub lists_in : File → List RecordList
lists_in file = flat_map (list_in file) (range_with_len 0 (length file.head.sections))

-- if it takes part
abbrev pub lists_for : File → List RecordList
lists_for file = if file.live then lists_in file else []

-- under the section's number in place of its index in file f
abbrev pub numbered : List File → (f : ℕ) → RecordList → RecordList
numbered files f l = record { section = section_no files f l.section; records = l.records }
