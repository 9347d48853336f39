-- A section by its number, and what its bytes in the executable are made from.
use Rattle.std.specs.Prelude.{◌≡◌, ℕ, ◌+◌, ◌-◌, ◌<◌, ◌≤◌, ◌^◌, false, Bool, Option, if◌then◌else◌, List, [], ◌∷◌, length, slice_index, slice_index_or, All}
use Rattle.std.specs.List.Sorted.{IsNonDecreasingBy}
use Rattle.lk_base.specs.RelocKinds.{is_among, is_uleb}
use Rattle.lk_base.specs.declared.abi.TheConstants.{IMAGE_BASE, R_RISCV_32, R_RISCV_32_PCREL, R_RISCV_64, R_RISCV_PLT32, R_RISCV_SET16, R_RISCV_SET32, R_RISCV_SET8, R_RISCV_LO12_I, R_RISCV_LO12_S, R_RISCV_TPREL_LO12_I, R_RISCV_TPREL_LO12_S, R_RISCV_ADD8, R_RISCV_ADD16, R_RISCV_ADD32, R_RISCV_ADD64, R_RISCV_SUB8, R_RISCV_SUB16, R_RISCV_SUB32, R_RISCV_SUB64, R_RISCV_SUB6, R_RISCV_SET6}
use Rattle.lk_base.specs.declared.defects.Defect.{Defect}
use Rattle.lk_tables.specs.declared.objects.Reloc.{Reloc}
use Rattle.lk_tables.specs.Binding.{Bindings}
use Rattle.lk_tables.specs.Files.{File, file_at, no_reloc, section_total}
use Rattle.lk_tables.specs.Sites.{IsPlaceOf, place_of, relocs_of}
use Rattle.link_sections.specs.declared.cuts.Cut.{Cut as HeldCut}
use Rattle.link_sections.specs.declared.views.View.{View}
use Rattle.link_sections.specs.CutsView.{AreCuts, cut_views}
use Rattle.link_sections.specs.LaidOut.{LaidOut, cuts_at, start_at}
use Rattle.link_sections.specs.Views.{binding_in, files_in, laid_in, leaders_in}
use Rattle.reloc_apply.specs.declared.sites.Site.{Site}
use Rattle.reloc_apply.specs.declared.sources.Source.{Source}
use Rattle.reloc_apply.specs.Image.{over, piece}
use Rattle.reloc_apply.specs.Relocated.{bytes_after, contents_at, reach_in, reloc_defects, staying_at, touches, width_at}
use Rattle.lk_base.specs.Reaches.{Reach}
use Rattle.reloc_apply.specs.Values.{offset_of}
use Rattle.link_sections.specs.Calls.{acting_kind}

-- the place is that of the section's number
pub record IsSite (files : List File) (site : Site) : Type 0 where
  pub number : site.section < section_total files
  pub place : site.place ≡ place_of files site.section
  pub law : IsPlaceOf files site.section site.place

-- a relocation's symbol is one of the section's file
abbrev pub HasSymbol : List File → Site → Reloc → Type 0
HasSymbol files site r = r.symbol < length (file_at files site.place.file).head.symbols

-- what is lent is the section's, which stands low in the file, with its cuts and the places of its relocations in it
pub record IsSource (files : List File) (b : Bindings) (leaders : List (Option ℕ)) (laid : LaidOut) (s : Source) : Type 0 where
  pub site : IsSite files s.site
  pub at : s.at ≡ start_at laid s.site.section - IMAGE_BASE
  pub raw : s.raw.now ≡ contents_at files b leaders laid s.site.section
  pub cuts : cut_views s.cuts.now ≡ cuts_at laid s.site.section
  pub relocs : s.relocs.now ≡ relocs_of files s.site.section
  pub symbols : All (HasSymbol files s.site) s.relocs.now
  pub sound : AreCuts s.cuts.now
  pub within : All (λ c. c.at + c.whole ≤ length s.raw.now) (cut_views s.cuts.now)
  pub low : s.at < 2 ^ 32
  pub short : length s.raw.now < 2 ^ 33
  pub places : All (λ r. offset_of files b leaders laid s.site.section r + width_at files b leaders laid s.site.section r ≤ length (staying_at files b leaders laid s.site.section)) s.relocs.now
  pub size : length (staying_at files b leaders laid s.site.section) < 2 ^ 32
  pub rising : IsNonDecreasingBy (offset_of files b leaders laid s.site.section) s.relocs.now

-- a site, by a view of the tables
abbrev pub IsIn : View → Site → Type 0
IsIn view site = IsSite (files_in view) site

abbrev pub HasSymbolIn : View → Site → Reloc → Type 0
HasSymbolIn view site r = HasSymbol (files_in view) site r

abbrev pub IsMadeFrom : View → Source → Type 0
IsMadeFrom view s = IsSource (files_in view) (binding_in view) (leaders_in view) (laid_in view) s

abbrev pub offset_by : View → Source → Reloc → ℕ
offset_by view s r = offset_of (files_in view) (binding_in view) (leaders_in view) (laid_in view) s.site.section r

abbrev pub width_by : View → Source → Reloc → ℕ
width_by view s r = width_at (files_in view) (binding_in view) (leaders_in view) (laid_in view) s.site.section r

-- which values the place of a relocation of a section takes
abbrev pub reach_of : View → (section : ℕ) → Reloc → Reach
reach_of view section r =
    reach_in (is_uleb r.kind) (acting_kind (cuts_at (laid_in view) section) r) (width_at (files_in view) (binding_in view) (leaders_in view) (laid_in view) section r)

-- the defects of relocation k, if it touches so many bytes of the file from an offset on
abbrev pub touching_at : View → Source → (from len k : ℕ) → List Defect
touching_at view s from len k =
    if touches (files_in view) (binding_in view) (leaders_in view) (laid_in view) from len s.site.section (slice_index_or s.relocs.now k no_reloc)
    then reloc_defects (files_in view) (binding_in view) (leaders_in view) (laid_in view) s.site.section (slice_index_or s.relocs.now (k - 1) no_reloc) (slice_index_or s.relocs.now k no_reloc)
    else []

abbrev pub end_by : View → Source → Reloc → ℕ
end_by view s r = offset_by view s r + width_by view s r

-- the kinds whose values set all bits of their places, whatever these held; and how many bytes a relocation sets so
unfoldable pub sets_all : (kind : ℕ) → Bool
sets_all = is_among (R_RISCV_32 ∷ R_RISCV_64 ∷ R_RISCV_SET8 ∷ R_RISCV_SET16 ∷ R_RISCV_SET32 ∷ R_RISCV_32_PCREL ∷ R_RISCV_PLT32 ∷ [])

-- kinds whose places take every value, and that are no lower parts, so that they need no partner; and whether a kind is one
abbrev pub every_kinds : List ℕ
every_kinds =
    R_RISCV_64 ∷ R_RISCV_LO12_I ∷ R_RISCV_LO12_S ∷ R_RISCV_TPREL_LO12_I ∷ R_RISCV_TPREL_LO12_S ∷ R_RISCV_ADD8 ∷ R_RISCV_ADD16 ∷ R_RISCV_ADD32 ∷ R_RISCV_ADD64
    ∷ R_RISCV_SUB8 ∷ R_RISCV_SUB16 ∷ R_RISCV_SUB32 ∷ R_RISCV_SUB64 ∷ R_RISCV_SUB6 ∷ R_RISCV_SET6 ∷ R_RISCV_SET8 ∷ R_RISCV_SET16 ∷ R_RISCV_SET32 ∷ []

unfoldable pub takes_every : (kind : ℕ) → Bool
takes_every = is_among every_kinds

abbrev pub set_by : View → Source → Reloc → ℕ
set_by view s r = if sets_all r.kind then width_by view s r else 0

abbrev pub first_bytes : View → Source → List ℕ
first_bytes view s = staying_at (files_in view) (binding_in view) (leaders_in view) (laid_in view) s.site.section

abbrev pub bytes_by : View → Source → (k : ℕ) → List ℕ
bytes_by view s k = bytes_after (files_in view) (binding_in view) (leaders_in view) (laid_in view) s.site.section k

-- a window holds what stands from an offset on in these bytes; past their end 0
abbrev pub Shows : (bytes : List ℕ) → (at : ℕ) → (window : List ℕ) → Type 0
Shows bytes at window = (j : ℕ) → j < length window → slice_index window j ≡ slice_index bytes (at + j)

-- from an offset on the bytes are as they were at first
abbrev pub IsFresh : (first bytes : List ℕ) → (from : ℕ) → Type 0
IsFresh first bytes from = (place : ℕ) → from ≤ place → slice_index bytes place ≡ slice_index first place

-- a block that starts at the file offset `from` has these bytes, as far as it meets them, and else what another has
abbrev pub IsOver : (from at : ℕ) → (bytes before after : List ℕ) → Type 0
IsOver from at bytes before after =
    (i : ℕ) → i < length before → slice_index after i ≡ over (piece at bytes) (slice_index before i) (from + i)

-- what stands past the end of a section's cuts
abbrev pub no_held : HeldCut
no_held = record { at = 0; whole = 0; kept = 0; is_align = false; new_at = 0 }
