-- The unwind records of a link, and which function each FDE is for (LSB Core, "Exception Frames": PC Begin).
use Rattle.std.specs.Prelude.{◌≡◌, ℕ, ◌+◌, ◌^◌, ◌<◌, ◌≤◌, ◌==◌, Bool, true, false, Option, Some, None, is_some, option_and_then, unwrap_or, if◌then◌else◌, List, [], ◌∷◌, length, map, find, flat_map, slice_index_or}
use Rattle.std.specs.Global.{Vec}
use Rattle.std.specs.List.{All, filter, range_with_len}
use Rattle.std.specs.List.Sorted.{IsStrictlyIncreasing}
use Rattle.lk_tables.specs.declared.bounds.Spot.{Spot}
use Rattle.lk_tables.specs.declared.bounds.Spot.TheVariants as spots
use Rattle.lk_tables.specs.Binding.{Bindings}
use Rattle.lk_tables.specs.Files.{File, file_at, is_frame_at, relocs_at, section_at, section_no, section_total}
use Rattle.lk_tables.specs.Relocations.{place_width}
use Rattle.lk_tables.specs.Sections.{contents_of}
use Rattle.lk_tables.specs.Sites.{contents_at, place_of}
use Rattle.lk_tables.specs.Targets.{is_gone, spot_of}
use Rattle.lk_tables.specs.Walks.{over_live}
use Rattle.lk_tables.specs.declared.frames.Frames.{Frames}
use Rattle.lk_tables.specs.declared.records.FrameNo.{FrameNo}
use Rattle.lk_tables.specs.declared.records.Record.{Record}
use Rattle.lk_tables.specs.Records.{RecordView, first_of, has_width, records_of}
use Rattle.lk_tables.specs.RecordViews.{record_views}

-- the records of a section, by its number
pub record RecordList : Type 0 where
  pub section : ℕ
  pub records : List RecordView

abbrev pub list_view : (ℕ × Vec Record) → RecordList
list_view list = record { section = list.0; records = record_views list.1.items }

abbrev pub list_views : List (ℕ × Vec Record) → List RecordList
list_views lists = map list_view lists

abbrev pub lists_of : Frames → List RecordList
lists_of frames = list_views frames.records.items

abbrev pub frames_by_section : Frames → List (List FrameNo)
frames_by_section frames = map (λ list. list.items) frames.of.items

-- in order of section number
abbrev pub AreInOrder : List RecordList → Type 0
AreInOrder lists = IsStrictlyIncreasing (map (λ (l : RecordList). l.section) lists)

-- a record by its numbers
abbrev pub nth : (at : ℕ) → Option RecordList → Option RecordView
nth at None = None
nth at (Some l) = slice_index_or (map Some l.records) at None

unfoldable pub record_at : List RecordList → FrameNo → Option RecordView
record_at lists number = nth number.at (find (λ (l : RecordList). l.section == number.section) lists)

-- what holds of a record that was read without a flaw, in a section of so many bytes and records
pub record IsRecordWithin (size records : ℕ) (r : RecordView) : Type 0 where
  pub bytes : r.from + 4 + r.len ≤ size
  pub least : 4 ≤ r.len
  pub cie : (k : ℕ) → r.cie ≡ Some k → k < records
  pub after : All (λ q. r.from ≤ q.offset) r.relocs
  pub places : All (λ q. has_width q ≡ true → q.offset + place_width q ≤ r.from + 4 + r.len) r.relocs

abbrev pub no_record : RecordView
no_record = record { from = 0; len = 0; cie = None; relocs = [] }

abbrev pub frame_no : (section at : ℕ) → FrameNo
frame_no section at = record { section = section; at = at }

module _ (lists : List RecordList) where
  -- the record of a number that has one
  abbrev pub record_by : FrameNo → RecordView
  record_by number = unwrap_or (record_at lists number) no_record

  -- the CIE of an FDE
  abbrev pub cie_no : FrameNo → FrameNo
  cie_no fde = frame_no fde.section (unwrap_or (record_by fde).cie 0)

-- a number that is there, and is this one
abbrev pub is_number : Option ℕ → ℕ → Bool
is_number None n = false
is_number (Some m) n = m == n

-- the section of what a relocation stands for
abbrev pub section_of_spot : Spot → Option ℕ
section_of_spot (spots.Section section offset rest) = Some section
section_of_spot (spots.Number n) = None
section_of_spot spots.Zero = None
section_of_spot (spots.Linker n) = None
section_of_spot spots.Unbound = None

-- the records of a section that were read without a flaw, and those of all sections in order
pub record IsListWithin (files : List File) (l : RecordList) : Type 0 where
  pub section : l.section < section_total files
  pub few : length l.records < 2 ^ 31
  pub short : length (contents_at files l.section) < 2 ^ 31
  pub records : All (IsRecordWithin (length (contents_at files l.section)) (length l.records)) l.records

pub record AreListsWithin (files : List File) (lists : List RecordList) : Type 0 where
  pub within : All (IsListWithin files) lists
  pub order : AreInOrder lists

-- the records of section k of a file, if it has some, under a number
abbrev pub records_in : File → (k number : ℕ) → List RecordList
records_in file k number = if is_frame_at file k
    then (record { section = number; records = records_of (contents_of file.bytes (section_at file k)) (relocs_at file k) }) ∷ [] else []

module _ (files : List File) where
  -- the unwind records of section k of file f
  abbrev pub list_at : (f k : ℕ) → List RecordList
  list_at f k = records_in (file_at files f) k (section_no files f k)

  -- the unwind records of all sections of the files that take part
  unfoldable pub all_lists : List RecordList
  all_lists = over_live files list_at

module _ (files : List File) (b : Bindings) where
  -- the section whose function an FDE of file f is for: that of its PC Begin, the first of its relocations that has bytes
  unfoldable pub owner_in : (f : ℕ) → RecordView → Option ℕ
  owner_in f r = if is_some r.cie then option_and_then (λ first. section_of_spot (spot_of files b f first)) (first_of r.relocs) else None

  abbrev pub owner_at : RecordList → (at : ℕ) → Option ℕ
  owner_at l at = owner_in (place_of files l.section).file (slice_index_or l.records at no_record)

  -- the FDEs of a list for functions of sections that pass a test, in order; a section that was discarded has none
  unfoldable pub frames_where : (Option ℕ → Bool) → RecordList → List FrameNo
  frames_where test l = if is_gone b l.section then []
      else map (frame_no l.section) (filter (λ at. test (owner_at l at)) (range_with_len 0 (length l.records)))

  -- the FDEs of the functions of section a, and of each section by its number
  unfoldable pub frames_at : List RecordList → (a : ℕ) → List FrameNo
  frames_at lists a = flat_map (frames_where (λ owner. is_number owner a)) lists

  unfoldable pub all_frames : List RecordList → List (List FrameNo)
  all_frames lists = map (frames_at lists) (range_with_len 0 (section_total files))
