-- Which unwind records are written (LSB Core, "Exception Frames"): the FDEs of the functions that are, and before them their CIEs, of which
-- those that say the same are one.
use Rattle.std.specs.Prelude.{◌≡◌, ℕ, ◌+◌, ◌-◌, ◌*◌, ◌^◌, ◌<◌, ◌==◌, ◌&&◌, ◌||◌, ℤ, pos, negsuc, Bool, true, false, Option, Some, None, unwrap_or, if◌then◌else◌, List, [], ◌∷◌, ◌++◌, length, map, take, drop, flat_map}
use Rattle.std.specs.Cmp.Lexicographic.{pointwise}
use Rattle.std.specs.Int.{to_le_bytes, w64}
use Rattle.std.specs.List.{All, list_any, position_or_len, sum_by}
use Rattle.std.specs.Ordering.{int_eq}
use Rattle.std.specs.Str.{bytes_eq}
use Rattle.lk_base.specs.RelocKinds.{names_a_symbol}
use Rattle.lk_tables.specs.declared.objects.Reloc.{Reloc}
use Rattle.lk_tables.specs.Binding.{Bindings}
use Rattle.lk_tables.specs.Files.{File}
use Rattle.lk_tables.specs.FramePlans.{PlanView}
use Rattle.lk_tables.specs.Sites.{contents_at, place_of}
use Rattle.lk_tables.specs.Targets.{spot_of}
use Rattle.link_sections.specs.declared.targets.Target.{Target}
use Rattle.link_sections.specs.declared.targets.Target.TheVariants as targets
use Rattle.link_sections.specs.Leaders.{leads}
use Rattle.link_sections.specs.PieceTargets.{piece_target}
use Rattle.link_sections.specs.PoolViews.{Merged, is_merged}
pub use Rattle.link_sections.specs.SameTargets.{same_target, signed_words}
pub use Rattle.link_sections.specs.Sums.{addend_of}
pub use Rattle.lk_tables.specs.Frames.{cie_no, record_by}
use Rattle.eh_frame.specs.declared.cies.CieReloc.{CieReloc}
use Rattle.lk_tables.specs.declared.records.FrameNo.{FrameNo}
use Rattle.lk_tables.specs.Records.{RecordView}
use Rattle.lk_tables.specs.Frames.{RecordList, frame_no, frames_where, no_record, record_at}

-- a CIE: its bytes, and of each of its relocations the offset in it, the kind and what it stands for
pub record CieKey : Type 0 where
  pub bytes : List ℕ
  pub relocs : List CieReloc

unfoldable pub same_reloc : CieReloc → CieReloc → Bool
same_reloc r q = r.offset == q.offset && (r.kind == q.kind && (same_target r.target q.target && int_eq r.addend q.addend))

unfoldable pub same_cie : CieKey → CieKey → Bool
same_cie c d = bytes_eq c.bytes d.bytes && pointwise same_reloc c.relocs d.relocs

-- what decides whether CIEs are one, as numbers: of a target, and of a relocation
abbrev pub target_words : Option Target → List ℕ
target_words None = 0 ∷ 0 ∷ 0 ∷ 0 ∷ 0 ∷ 0 ∷ []
target_words (Some (targets.Section section offset rest)) = 1 ∷ section ∷ offset ∷ 0 ∷ signed_words rest
target_words (Some (targets.Piece pool piece offset rest)) = 2 ∷ pool ∷ piece ∷ offset ∷ signed_words rest
target_words (Some (targets.Number n)) = 3 ∷ n ∷ 0 ∷ 0 ∷ 0 ∷ 0 ∷ []
target_words (Some targets.Zero) = 4 ∷ 0 ∷ 0 ∷ 0 ∷ 0 ∷ 0 ∷ []
target_words (Some (targets.Linker n)) = 5 ∷ n ∷ 0 ∷ 0 ∷ 0 ∷ 0 ∷ []
target_words (Some targets.Unbound) = 6 ∷ 0 ∷ 0 ∷ 0 ∷ 0 ∷ 0 ∷ []

unfoldable pub reloc_words : CieReloc → List ℕ
reloc_words r = r.offset ∷ r.kind ∷ (target_words r.target ++ signed_words r.addend)

-- numbers as bytes, eight each
unfoldable pub words_bytes : List ℕ → List ℕ
words_bytes words = flat_map (to_le_bytes w64) words

-- a CIE as bytes: how many it has, these, and its relocations
unfoldable pub cie_text : CieKey → List ℕ
cie_text c = to_le_bytes w64 (length c.bytes) ++ (c.bytes ++ words_bytes (flat_map reloc_words c.relocs))

-- each number of it fits eight bytes
pub record IsFit (c : CieKey) : Type 0 where
  pub len : length c.bytes < 2 ^ 64
  pub words : All (λ w. w < 2 ^ 64) (flat_map reloc_words c.relocs)

-- these bytes tell it from others
pub record IsTextOf (c : CieKey) (text : List ℕ) : Type 0 where
  pub text_is : text ≡ cie_text c
  pub fit : IsFit c

-- a section's own bytes are written: it is its own leader, or it is merged, and they stand in a pool
abbrev pub is_in_place : (leaders : List (Option ℕ)) → (merged : List (Option Merged)) → (section : ℕ) → Bool
is_in_place leaders merged a = leads leaders a || is_merged merged a

-- the section of an FDE's function is one whose own bytes are written
abbrev pub is_owner_in_place : (leaders : List (Option ℕ)) → (merged : List (Option Merged)) → (owner : Option ℕ) → Bool
is_owner_in_place leaders merged None = false
is_owner_in_place leaders merged (Some a) = is_in_place leaders merged a

module _ (files : List File) (b : Bindings) (merged : List (Option Merged)) where
  abbrev pub with_target : (from : ℕ) → Reloc → Target → CieReloc
  with_target from r t = record { offset = r.offset - from; kind = r.kind; target = Some t; addend = addend_of t r }

  -- a relocation of a CIE of file f that starts at an offset; RELAX names no symbol
  unfoldable pub reloc_in : (f from : ℕ) → Reloc → CieReloc
  reloc_in f from r = if names_a_symbol r.kind then with_target from r (piece_target merged (spot_of files b f r))
      else record { offset = r.offset - from; kind = r.kind; target = None; addend = pos 0 }

  -- a CIE of a section
  unfoldable pub key_of : (section : ℕ) → RecordView → CieKey
  key_of section cie = record {
    bytes = take (4 + cie.len) (drop cie.from (contents_at files section));
    relocs = map (reloc_in (place_of files section).file cie.from) cie.relocs;
  }

module _ (lists : List RecordList) where
  -- all bytes of a record
  abbrev pub size_of : FrameNo → ℕ
  size_of number = 4 + (record_by lists number).len

  -- the records, and a Length of 0 after them; nothing without an FDE
  abbrev pub frame_len_of : (fdes cies : List FrameNo) → ℕ
  frame_len_of [] cies = 0
  frame_len_of (fde ∷ fdes) cies = sum_by size_of cies + sum_by size_of (fde ∷ fdes) + 4

-- a table of so many functions; nothing without one
abbrev pub header_len_of : (fdes : List FrameNo) → ℕ
header_len_of [] = 0
header_len_of (fde ∷ fdes) = 12 + 8 * length (fde ∷ fdes)

-- the bytes of a record as they stand in its file
unfoldable pub record_bytes : List File → List RecordList → FrameNo → List ℕ
record_bytes files lists number = take (size_of lists number) (drop (record_by lists number).from (contents_at files number.section))

module _ (key : FrameNo → CieKey) where
  -- a known CIE says the same
  abbrev pub is_alike : (cie known : FrameNo) → Bool
  is_alike cie known = same_cie (key known) (key cie)

  -- one more, if none that is known says the same
  abbrev pub with_cie : (known : List FrameNo) → (cie : FrameNo) → List FrameNo
  with_cie known cie = if list_any (is_alike cie) known then known else known ++ (cie ∷ [])

  -- the first of those that say the same, after some that are known
  abbrev pub first_cies : (known cies : List FrameNo) → List FrameNo
  first_cies known [] = known
  first_cies known (cie ∷ cies) = first_cies (with_cie known cie) cies

  -- which of these says the same
  abbrev pub use_of : (cies : List FrameNo) → (cie : FrameNo) → ℕ
  use_of cies cie = position_or_len (is_alike cie) cies

-- the FDEs of the functions that are written
unfoldable pub written_fdes : List File → Bindings → List (Option Merged) → List RecordList → (leaders : List (Option ℕ)) → List FrameNo
written_fdes files b merged lists leaders = flat_map (frames_where files b (is_owner_in_place leaders merged)) lists

module _ (files : List File) (b : Bindings) (merged : List (Option Merged)) (lists : List RecordList) where
  abbrev pub cie_key : FrameNo → CieKey
  cie_key number = key_of files b merged number.section (record_by lists number)

  -- the CIEs of some FDEs, of those that say the same the first
  unfoldable pub written_cies : (fdes : List FrameNo) → List FrameNo
  written_cies fdes = first_cies cie_key [] (map (cie_no lists) fdes)

  unfoldable pub plan_of : (leaders : List (Option ℕ)) → PlanView
  plan_of leaders =
      let fdes = written_fdes files b merged lists leaders in
      let cies = written_cies fdes in
      record {
        cies = cies;
        fdes = fdes;
        uses = map (λ fde. use_of cie_key cies (cie_no lists fde)) fdes;
        frame_len = frame_len_of lists fdes cies;
        header_len = header_len_of fdes;
      }
