-- What may go into an executable, by section number: the sections of the files that take part (System V gABI, "Sections"), and the room
-- of COMMON symbols that are bound.
use Rattle.std.specs.Prelude.{ℕ, ◌+◌, ◌&&◌, ◌==◌, not, nat_lt, Bool, Option, Some, None, is_some, if◌then◌else◌, max, List, [], length, find, codes}
use Rattle.lk_base.specs.declared.abi.TheConstants.{SHF_ALLOC, SHF_WRITE, SHT_NOBITS, SHT_NULL}
use Rattle.lk_tables.specs.declared.commons.BoundCommon.{BoundCommon}
use Rattle.lk_tables.specs.Binding.{Bindings}
use Rattle.lk_tables.specs.Files.{File, file_at, section_at, section_no, writes, by_section}
use Rattle.lk_tables.specs.Names.{text_of}
use Rattle.lk_tables.specs.Sites.{place_of}
use Rattle.lk_tables.specs.Targets.{commons_at, is_gone}

-- its name, type, flags, bytes and alignment, as its header says them; an alignment of 0 counts as 1
pub record InputSection : Type 0 where
  pub name : List ℕ
  pub sh_type : ℕ
  pub flags : ℕ
  pub size : ℕ
  pub align : ℕ

abbrev pub section_input : File → (k : ℕ) → InputSection
section_input file k = record {
  name = text_of file.bytes (section_at file k).name;
  sh_type = (section_at file k).sh_type;
  flags = (section_at file k).flags;
  size = (section_at file k).size;
  align = max 1 (section_at file k).align;
}

-- the room of a COMMON symbol stands as a section of this name
abbrev pub room_input : Option BoundCommon → InputSection
room_input None = record { name = []; sh_type = SHT_NULL; flags = 0; size = 0; align = 1 }
room_input (Some c) = record { name = codes "COMMON"; sh_type = SHT_NOBITS; flags = SHF_WRITE + SHF_ALLOC; size = c.size; align = c.align }

-- the COMMON symbol whose room has this number
abbrev pub common_of : List BoundCommon → (section : ℕ) → Option BoundCommon
common_of commons section = find (λ c. c.section == section) commons

module _ (files : List File) (b : Bindings) where
  -- index k of file f: after the file's own sections come its COMMON symbols
  abbrev pub is_own : (f k : ℕ) → Bool
  is_own f k = nat_lt k (length (file_at files f).head.sections)

  abbrev pub common_in : (f k : ℕ) → Option BoundCommon
  common_in f k = common_of (commons_at b.commons f) (section_no files f k)

  unfoldable pub input_of : (f k : ℕ) → InputSection
  input_of f k = if is_own f k then section_input (file_at files f) k else room_input (common_in f k)

  abbrev pub input_at : (section : ℕ) → InputSection
  input_at section = input_of (place_of files section).file (place_of files section).index

  -- it may be kept: it is written and was not discarded with its group, or it is the room of a symbol that is bound
  unfoldable pub may_stay : (f k : ℕ) → Bool
  may_stay f k = if is_own f k then writes (file_at files f) k && not (is_gone b (section_no files f k)) else is_some (common_in f k)

  abbrev pub may_stay_at : (section : ℕ) → Bool
  may_stay_at section = may_stay (place_of files section).file (place_of files section).index

  -- by section number, what a link keeps that collects nothing
  abbrev pub all_kept : List Bool
  all_kept = by_section files may_stay
