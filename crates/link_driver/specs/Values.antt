-- What is wrong with the values of relocations, and what is written of unwind records.
use Rattle.std.specs.Prelude.{◌≡◌, ℕ, ◌==◌, ◌&&◌, ◌||◌, nat_lt, Bool, if◌then◌else◌, Option, Result, Ok, Err, List, flat_map}
use Rattle.std.specs.List.{range_with_len}
use Rattle.lk_base.specs.declared.defects.Defect.{Defect}
use Rattle.lk_base.specs.declared.defects.LinkStop.{LinkStop}
use Rattle.lk_base.specs.declared.defects.LinkStop.TheVariants as stops
use Rattle.lk_base.specs.Firsts.{StopsAt}
use Rattle.lk_tables.specs.Binding.{Bindings}
use Rattle.lk_tables.specs.FramePlans.{PlanView}
use Rattle.lk_tables.specs.Files.{File, file_at, is_frame_at, section_total}
use Rattle.lk_tables.specs.Frames.{all_lists}
use Rattle.lk_tables.specs.Sites.{place_of}
use Rattle.link_sections.specs.LaidOut.{LaidOut}
use Rattle.eh_frame.specs.Bytes.{frame_bytes, record_defects}
use Rattle.eh_frame.specs.Header.{header_bytes}
use Rattle.elf_out.specs.Executable.{FrameContents}
use Rattle.reloc_apply.specs.Relocated.{section_defects}

-- a section has unwind records, by its number
abbrev pub has_records : List File → (section : ℕ) → Bool
has_records files section = is_frame_at (file_at files (place_of files section).file) (place_of files section).index

module _ (files : List File) (b : Bindings) (leaders : List (Option ℕ)) (laid : LaidOut) (plan : PlanView) where
  -- of a section by its number: of its unwind records that are written, if it has some, else of its relocations
  abbrev pub values_at : (section : ℕ) → List Defect
  values_at section = if has_records files section then record_defects files b leaders laid (all_lists files) plan laid.bounds.frames section
      else section_defects files b leaders laid section

  -- of all sections that are written, in order
  unfoldable pub value_defects : List Defect
  value_defects = flat_map values_at (range_with_len 0 (section_total files))

  -- what `.eh_frame_hdr` and `.eh_frame` hold
  unfoldable pub contents_with : FrameContents
  contents_with = record {
    header = header_bytes files b leaders laid (all_lists files) plan laid.bounds.frame_header laid.bounds.frames;
    frame = frame_bytes files b leaders laid (all_lists files) plan laid.bounds.frames;
  }

-- a defect comes before another by file and section
abbrev pub comes_first : (d e : Defect) → Bool
comes_first d e = nat_lt d.file e.file || (d.file == e.file && nat_lt d.section e.section)

-- the first of two
abbrev pub earlier : (d e : Defect) → Defect
earlier d e = if comes_first e d then e else d

-- of two stops; out of memory comes first
abbrev pub earlier_stop : (one other : LinkStop) → LinkStop
earlier_stop stops.Memory other = stops.Memory
earlier_stop (stops.Defect d) stops.Memory = stops.Memory
earlier_stop (stops.Defect d) (stops.Defect e) = stops.Defect (earlier d e)

-- an answer stops at the first of some defects; or where it does not stop, these are the ones that are left
abbrev pub Leaves : {X : Type 0} → Result X LinkStop → (defects left : List Defect) → Type 0
Leaves (Ok x) defects left = defects ≡ left
Leaves (Err stop) defects left = StopsAt stop defects
