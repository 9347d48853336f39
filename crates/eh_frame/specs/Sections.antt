-- The sections of an object that have unwind records, and what is read of them (LSB Core, "Exception Frames").
use Rattle.std.specs.Prelude.{◌≡◌, ℕ, ◌==◌, ◌&&◌, nat_lt, slice_index_or, Bool, Option, Some, None, Result, if◌then◌else◌, List, [], ◌++◌, map}
use Rattle.lk_base.specs.declared.abi.TheConstants.{SHT_RELA}
use Rattle.lk_base.specs.declared.defects.Flaw.{Flaw}
use Rattle.lk_base.specs.declared.kinds.TheConstants.{BAD_FRAME}
use Rattle.lk_tables.specs.declared.heads.Section.{Section}
use Rattle.lk_tables.specs.Bodies.{rela_of}
use Rattle.lk_tables.specs.Checks.{Check, ◌says◌, checked, flaw_at, from_on, NoneBroken}
use Rattle.lk_tables.specs.FileHeader.{section_count}
use Rattle.lk_tables.specs.Files.{no_section}
use Rattle.lk_tables.specs.Objects.{relocs_for}
use Rattle.lk_tables.specs.Relocations.{in_order, rela_place, reloc}
use Rattle.lk_tables.specs.Sections.{contents_of, is_frame, section_of}
use Rattle.eh_frame.specs.declared.sections.Entry.{Entry}
use Rattle.lk_tables.specs.Records.{RecordView, count, records_of}
use Rattle.eh_frame.specs.RecordChecks.{is_stray, record_checks}

-- the bytes of section k
abbrev pub bytes_of : List ℕ → (k : ℕ) → List ℕ
bytes_of b k = contents_of b (section_of b k)

-- of each relocation in stable order of offset, whether it has bytes that lie in no record; the place is its entry
abbrev pub stray_check : List ℕ → List ℕ → (rela entry : ℕ) → Check
stray_check b c rela entry = is_stray c (reloc b rela entry) says flaw_at BAD_FRAME rela (rela_place b rela entry)

abbrev pub stray_checks : List ℕ → List ℕ → Option ℕ → List Check
stray_checks b c None = []
stray_checks b c (Some rela) = map (stray_check b c rela) (in_order b rela)

-- the checks of section k: of each record in order, then of the relocations
unfoldable pub frame_checks : List ℕ → (k : ℕ) → List Check
frame_checks b k =
    from_on (record_checks k (section_of b k).offset (bytes_of b k) (relocs_for b k)) 0 (count (bytes_of b k))
    ++ stray_checks b (bytes_of b k) (rela_of b k)

-- what is read of section k
unfoldable pub frames_of : List ℕ → (k : ℕ) → Result (List RecordView) Flaw
frames_of b k = checked (frame_checks b k) (records_of (bytes_of b k) (relocs_for b k))

-- the checks of all sections that have records
unfoldable pub section_frames : List ℕ → (k : ℕ) → List Check
section_frames b k = if nat_lt 0 k && is_frame b (section_of b k) then frame_checks b k else []

abbrev pub all_frame_checks : List ℕ → List Check
all_frame_checks b = from_on (section_frames b) 0 (section_count b)

-- section k of these bytes has these records, and none of its checks is broken
pub record FramesOf (b : List ℕ) (k : ℕ) (records : List RecordView) : Type 0 where
  pub parts : records ≡ records_of (bytes_of b k) (relocs_for b k)
  pub sound : NoneBroken (frame_checks b k)

-- section r of a table has the relocations of section k
unfoldable pub is_rela_for : List Section → (k r : ℕ) → Bool
is_rela_for sections k r =
    nat_lt 0 r && ((slice_index_or sections r no_section).sh_type == SHT_RELA && (slice_index_or sections r no_section).info == k)

-- entry j of the relocation section i
abbrev pub entry_at : List ℕ → (i j : ℕ) → Entry
entry_at b i j = record { offset = (reloc b i j).offset; number = j }
