-- What holds of a layout of a link, for those who write by it.
use Rattle.std.specs.Prelude.{◌≡◌, ◌≢◌, ℕ, ◌+◌, ◌*◌, ◌<◌, ◌≤◌, ◌^◌, ◌==◌, Bool, true, false, Option, List, length, slice_index, slice_index_or, All}
use Rattle.std.specs.List.{list_any}
use Rattle.lk_base.specs.declared.abi.TheConstants.{EHDR_SIZE, IMAGE_BASE, SHT_NOBITS}
use Rattle.lk_tables.specs.Binding.{Bindings}
use Rattle.lk_tables.specs.Files.{File, section_total}
use Rattle.lk_tables.specs.Sites.{contents_at, relocs_of}
use Rattle.link_sections.specs.declared.members.Content.{Content}
use Rattle.link_sections.specs.declared.members.Content.TheVariants.{Section, Pool, Got}
use Rattle.link_sections.specs.declared.members.Member.{Member}
use Rattle.link_sections.specs.Cuts.{AreApart, new_offset}
use Rattle.link_sections.specs.InputSections.{input_at, may_stay_at}
use Rattle.link_sections.specs.Addresses.{no_pool}
use Rattle.link_sections.specs.Calls.{width_in}
use Rattle.link_sections.specs.GotEntries.{word_count}
use Rattle.link_sections.specs.LaidOut.{LaidOut, OutputPlace, cuts_at, start_at}
use Rattle.link_sections.specs.Leaders.{leads}

-- whether a member is section n
abbrev pub is_section : (n : ℕ) → Content → Bool
is_section n (Section m) = m == n
is_section n (Pool p) = false
is_section n Got = false

abbrev pub is_pool : (p : ℕ) → Content → Bool
is_pool p (Section m) = false
is_pool p (Pool q) = q == p
is_pool p Got = false

abbrev pub is_table : Content → Bool
is_table (Section m) = false
is_table (Pool p) = false
is_table Got = true

-- whether one of these members is
abbrev pub is_listed : (n : ℕ) → List Member → Bool
is_listed n members = list_any (λ m. is_section n m.content) members

-- a member that is section n: that one is its own leader and may be kept, it stands where the layout says, and its cuts and the places of its
-- relocations lie in it
pub record IsSectionMember (files : List File) (b : Bindings) (leaders : List (Option ℕ)) (laid : LaidOut) (n : ℕ) (m : Member) : Type 0 where
  pub number : n < section_total files
  pub stays : may_stay_at files b n ≡ true
  pub own : leads leaders n ≡ true
  pub start : m.start ≡ start_at laid n
  pub size : m.size ≡ new_offset (cuts_at laid n) (input_at files b n).size
  pub cuts : All (λ c. c.at + c.whole ≤ (input_at files b n).size) (cuts_at laid n)
  pub relocs : All (λ r. new_offset (cuts_at laid n) r.offset + width_in (contents_at files n) (cuts_at laid n) r ≤ m.size) (relocs_of files n)

-- a member that is pool p: it is one of them, and stands where the layout says with all its bytes
pub record IsPoolMember (laid : LaidOut) (p : ℕ) (m : Member) : Type 0 where
  pub number : p < length laid.merging.pools
  pub start : m.start ≡ slice_index laid.pools p
  pub size : m.size ≡ (slice_index_or laid.merging.pools p no_pool).size

-- the member that is the linker's table
pub record IsGotMember (laid : LaidOut) (m : Member) : Type 0 where
  pub start : m.start ≡ laid.got
  pub size : m.size ≡ 8 * word_count laid.table

-- `.eh_frame_hdr` and `.eh_frame` stand one after the other between the headers and the end of the file, and no member among them; without an
-- FDE both are nothing at the image's start (LSB Core, "Exception Frames")
pub record HaveFrameRoom (laid : LaidOut) : Type 0 where
  pub from : IMAGE_BASE ≤ laid.bounds.frame_header
  pub header : laid.bounds.frame_header ≤ laid.bounds.frame_header_end
  pub between : laid.bounds.frame_header_end ≤ laid.bounds.frames
  pub frames : laid.bounds.frames ≤ laid.bounds.frames_end
  pub inside : laid.bounds.frames_end ≤ laid.bounds.file_end
  pub above : laid.bounds.has_frames ≡ true → laid.bounds.headers_end ≤ laid.bounds.frame_header
  pub none : laid.bounds.has_frames ≡ false → laid.bounds.frames_end ≡ IMAGE_BASE
  pub apart : All (λ m. laid.bounds.frame_header < m.start + m.size → laid.bounds.frames_end ≤ m.start) laid.members

-- the members with bytes stand one after the other, from the headers on, within the file; each section that is its own leader and has bytes in its
-- file is one of them
pub record IsSound (files : List File) (b : Bindings) (leaders : List (Option ℕ)) (laid : LaidOut) : Type 0 where
  pub sections : All (λ m. (n : ℕ) → m.content ≡ Section n → IsSectionMember files b leaders laid n m) laid.members
  pub listed : (n : ℕ) → n < section_total files → leads leaders n ≡ true → (input_at files b n).sh_type ≢ SHT_NOBITS → 0 < (input_at files b n).size
      → is_listed n laid.members ≡ true
  pub pools : All (λ m. (p : ℕ) → m.content ≡ Pool p → IsPoolMember laid p m) laid.members
  pub pools_listed : (p : ℕ) → p < length laid.merging.pools → 0 < (slice_index_or laid.merging.pools p no_pool).size → list_any (λ m. is_pool p m.content) laid.members ≡ true
  pub table : All (λ m. m.content ≡ Got → IsGotMember laid m) laid.members
  pub table_listed : 0 < word_count laid.table → list_any (λ m. is_table m.content) laid.members ≡ true
  pub low : All (λ m. IMAGE_BASE + EHDR_SIZE ≤ m.start) laid.members
  pub above : All (λ m. laid.bounds.headers_end ≤ m.start) laid.members
  pub inside : All (λ m. m.start + m.size ≤ laid.bounds.file_end) laid.members
  pub order : (i : ℕ) (d : Member) → i + 1 < length laid.members →
      (slice_index_or laid.members i d).start + (slice_index_or laid.members i d).size ≤ (slice_index_or laid.members (i + 1) d).start
  pub headers : IMAGE_BASE + EHDR_SIZE ≤ laid.bounds.file_end
  pub small : laid.bounds.file_end < IMAGE_BASE + 2 ^ 31
  pub few : length laid.outputs + 4 < 65536
  pub room : (n : ℕ) → start_at laid n + 2 ^ 33 < 2 ^ 64
  pub pool_room : (p : ℕ) → slice_index laid.pools p + 2 ^ 62 < 2 ^ 64
  pub table_room : laid.got + 2 ^ 40 < 2 ^ 64
  pub pointer_room : laid.bounds.tls_bits_end + 2 ^ 31 < 2 ^ 64
  pub place_room : All (λ (p : OutputPlace). p.start + 2 ^ 31 < 2 ^ 64) laid.places
  pub apart : All AreApart laid.cuts
  pub frames : HaveFrameRoom laid
