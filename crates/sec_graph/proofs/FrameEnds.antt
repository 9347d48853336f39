-- The sections that unwind records name: what is said of them follows from what is said of each relocation, and the other way round.
use Rattle.std.proofs.Common.{◌≡◌, ℕ, ◌<◌, ◌==◌, ◌&&◌, ℤ, Bool, true, List, [], ◌∷◌, length, map, flat_map, All, Contains, refl, arith}
use Rattle.std.specs.Prelude.{filter, not, Option}
use Rattle.std.specs.List.{range_with_len}
use Rattle.std.proofs.lemmas.List.Elements.{All-nil, All-cons, All-append, All-contains, All-contains_itself, All-map, All-weaker}
use Rattle.lk_base.specs.RelocKinds.{goes_by_got, names_a_symbol}
use Rattle.lk_base.specs.declared.abi.TheConstants.{STB_WEAK}
use Rattle.lk_tables.specs.declared.bounds.Bound.{Bound}
use Rattle.lk_tables.specs.declared.bounds.Bound.TheVariants.{InSection, Number, Linker, Nobody}
use Rattle.lk_tables.specs.declared.bounds.Spot.{Spot}
use Rattle.lk_tables.specs.declared.bounds.Spot.TheVariants as targets
use Rattle.lk_tables.specs.declared.heads.Symbol.{Symbol}
use Rattle.lk_tables.specs.declared.objects.Reloc.{Reloc}
use Rattle.lk_tables.specs.declared.records.FrameNo.{FrameNo}
use Rattle.lk_tables.specs.BoundNames.{IsBindingOf}
use Rattle.lk_tables.specs.Binding.{Bindings}
use Rattle.lk_tables.specs.Files.{AreFew, File, file_at, is_frame_at, is_section_symbol, relocs_at, section_at, section_no, section_total, symbol_at}
use Rattle.lk_tables.specs.Frames.{RecordList, all_lists, frame_no, frames_at, frames_where, is_number, list_at, owner_at}
use Rattle.lk_tables.specs.Records.{records_of}
use Rattle.lk_tables.specs.Sections.{contents_of}
use Rattle.lk_tables.specs.Sites.{place_of}
use Rattle.lk_tables.specs.Targets.{bound, is_gone, spot_by, spot_of}
use Rattle.lk_tables.specs.Walks.{over_file, over_live}
use Rattle.lk_tables.proofs.BoundWithin.{IsWithin, bound_within}
use Rattle.lk_tables.proofs.BoundHas.{each_flat, each_if, either, one_if}
use Rattle.lk_tables.proofs.FirstNumbers.{section_within}
use Rattle.lk_tables.proofs.LiveFiles.{counted}
use Rattle.sec_graph.specs.FrameRelocs.{cie_no, cies_of, frame_relocs, others, record_by}
use Rattle.sec_graph.specs.Graph.{cie_ends, fde_ends, frame_ends, record_target}
use Rattle.sec_graph.specs.Taken.{section_of}
use Rattle.sec_graph.proofs.FoundRecords.{cies_all, cies_parts}
use Rattle.sec_graph.proofs.ListParts.{all_left, all_right, each_of, flat_all, flat_parts, map_all, part_of}

module _ (files : List File) (b : Bindings) (P : ℕ → Type 0) where
  -- of all relocations that an FDE needs, the section in which each stands
  abbrev Each : FrameNo → Reloc → Type 0
  Each fde r = All P (record_target files b (place_of files fde.section).file r)

  fde_all : (fde : FrameNo) → All (Each fde) (frame_relocs (all_lists files) fde) → All P (fde_ends files b fde)
  unfolding frame_relocs
  fde_all fde all =
      let lists = all_lists files in
      let own = others (record_by lists fde).relocs in
      flat_all P (record_target files b (place_of files fde.section).file) own (all_left (Each fde) own (record_by lists (cie_no lists fde)).relocs all)

  cie_all : (fde : FrameNo) → All (Each fde) (frame_relocs (all_lists files) fde) → All P (cie_ends files b (cie_no (all_lists files) fde))
  unfolding frame_relocs
  cie_all fde all =
      let lists = all_lists files in
      let shared = (record_by lists (cie_no lists fde)).relocs in
      flat_all P (record_target files b (place_of files fde.section).file) shared (all_right (Each fde) (others (record_by lists fde).relocs) shared all)

  each_all : (fde : FrameNo) → All P (fde_ends files b fde) → All P (cie_ends files b (cie_no (all_lists files) fde)) → All (Each fde) (frame_relocs (all_lists files) fde)
  unfolding frame_relocs
  each_all fde own shared =
      let lists = all_lists files in
      let target : Reloc → List ℕ = record_target files b (place_of files fde.section).file in
      let first = others (record_by lists fde).relocs in
      let last = (record_by lists (cie_no lists fde)).relocs in
      All-append (Each fde) first last (flat_parts P target first own) (flat_parts P target last shared)

  -- of all FDEs
  pub frames_from : (fdes : List FrameNo) → ((fde : FrameNo) → Contains fdes fde → All (Each fde) (frame_relocs (all_lists files) fde)) → All P (frame_ends files b fdes)
  unfolding frame_ends
  frames_from fdes each =
      let lists = all_lists files in
      let C : FrameNo → Type 0 = λ number. All P (cie_ends files b number) in
      All-append P (flat_map (fde_ends files b) fdes) (flat_map (cie_ends files b) (cies_of lists fdes))
      (each_of P (fde_ends files b) fdes (λ fde has. fde_all fde (each fde has)))
      (flat_all P (cie_ends files b) (cies_of lists fdes) (cies_all C lists fdes (All-map C (cie_no lists) fdes
      (All-weaker (Contains fdes) (λ fde. C (cie_no lists fde)) (λ fde has. cie_all fde (each fde has)) fdes (All-contains_itself fdes)))))

  pub frames_to : (fdes : List FrameNo) (fde : FrameNo) → All P (frame_ends files b fdes) → Contains fdes fde → All (Each fde) (frame_relocs (all_lists files) fde)
  unfolding frame_ends
  frames_to fdes fde all has =
      let lists = all_lists files in
      let C : FrameNo → Type 0 = λ number. All P (cie_ends files b number) in
      let own = flat_map (fde_ends files b) fdes in
      let shared = flat_map (cie_ends files b) (cies_of lists fdes) in
      let cies = cies_parts C lists fdes (flat_parts P (cie_ends files b) (cies_of lists fdes) (all_right P own shared all)) in
      each_all fde (part_of P (fde_ends files b) fdes fde (all_left P own shared all) has)
      (All-contains (λ number. C (cie_no lists number)) fdes fde (map_all C (cie_no lists) fdes cies) has)

-- the section in which a target stands
pub alone_all : (P : ℕ → Type 0) (t : Spot) → ((section offset : ℕ) (rest : ℤ) → t ≡ targets.Section section offset rest → P section) → All P (section_of t)
alone_all P (targets.Section section offset rest) each = All-cons P section [] (each section offset rest refl) (All-nil P)
alone_all P (targets.Number n) each = All-nil P
alone_all P targets.Zero each = All-nil P
alone_all P (targets.Linker n) each = All-nil P
alone_all P targets.Unbound each = All-nil P

-- the records are of the link's sections
module _ (files : List File) where
  list_below : (f k : ℕ) → f < length files → (file_at files f).live ≡ true → k < length (file_at files f).head.sections →
      All (λ (l : RecordList). l.section < section_total files) (list_at files f k)
  list_below f k lt live below =
      one_if (λ (l : RecordList). l.section < section_total files) (is_frame_at (file_at files f) k)
      (record { section = section_no files f k; records = records_of (contents_of (file_at files f).bytes (section_at (file_at files f) k)) (relocs_at (file_at files f) k) })
      (λ _. omega (arith, counted (file_at files f) live, section_within files f lt, below))

  pub lists_below : All (λ (l : RecordList). l.section < section_total files) (all_lists files)
  unfolding all_lists over_live over_file
  lists_below =
      let P : RecordList → Type 0 = λ l. l.section < section_total files in
      each_flat P (over_file files (list_at files)) 0 (length files) (λ f lt.
      each_if P (file_at files f).live (flat_map (list_at files f) (range_with_len 0 (length (file_at files f).head.sections))) (λ live.
      each_flat P (list_at files f) 0 (length (file_at files f).head.sections) (λ k below.
      list_below f k (omega (arith, lt)) live (omega (arith, below)))))

  numbered : (P : ℕ → Type 0) (section : ℕ) (ats : List ℕ) → P section → All (λ (number : FrameNo). P number.section) (map (frame_no section) ats)
  numbered P section [] own = All-nil (λ (number : FrameNo). P number.section)
  numbered P section (at ∷ ats) own =
      All-cons (λ (number : FrameNo). P number.section) (frame_no section at) (map (frame_no section) ats) own (numbered P section ats own)

  where_below : (b : Bindings) (test : Option ℕ → Bool) (l : RecordList) → l.section < section_total files →
      All (λ (number : FrameNo). number.section < section_total files) (frames_where files b test l)
  unfolding frames_where
  where_below b test l lt =
      let P : FrameNo → Type 0 = λ number. number.section < section_total files in
      let ats = filter (λ at. test (owner_at files b l at)) (range_with_len 0 (length l.records)) in
      either (All P) (is_gone b l.section) [] (map (frame_no l.section) ats) (All-nil P) (numbered (λ n. n < section_total files) l.section ats lt)

  pub fdes_below : (b : Bindings) (a : ℕ) → All (λ (number : FrameNo). number.section < section_total files) (frames_at files b (all_lists files) a)
  unfolding frames_at
  fdes_below b a =
      let P : FrameNo → Type 0 = λ number. number.section < section_total files in
      let test : Option ℕ → Bool = λ owner. is_number owner a in
      flat_all P (frames_where files b test) (all_lists files)
      (All-weaker (λ (l : RecordList). l.section < section_total files) (λ l. All P (frames_where files b test l)) (λ l lt. where_below b test l lt) (all_lists files) lists_below)

-- the sections that they name are the link's
alone_below : (files : List File) (found : Bound) (file : File) (s : Symbol) (r : Reloc) → IsWithin files found → All (λ n. n < section_total files) (section_of (spot_by found file s r))
alone_below files (InSection section offset) file s r lt =
    let P : ℕ → Type 0 = λ n. n < section_total files in
    let one = All-cons P section [] lt (All-nil P) in
    either (λ t. All P (section_of t)) (is_section_symbol s && not (goes_by_got r.kind)) _ _ one one
alone_below files (Number n) file s r lt = All-nil (λ n. n < section_total files)
alone_below files (Linker n) file s r lt = All-nil (λ n. n < section_total files)
alone_below files Nobody file s r lt =
    let none = All-nil (λ n. n < section_total files) in
    either (λ t. All (λ n. n < section_total files) (section_of t)) (s.binding == STB_WEAK) targets.Zero targets.Unbound none none

pub record_below : (files : List File) (b : Bindings) (f : ℕ) (r : Reloc) → IsBindingOf files b → AreFew files → f < length files → (file_at files f).live ≡ true →
    All (λ n. n < section_total files) (record_target files b f r)
unfolding record_target spot_of
record_below files b f r is few lt live =
    each_if (λ n. n < section_total files) (names_a_symbol r.kind) (section_of (spot_of files b f r)) (λ names.
    alone_below files (bound files b f r.symbol) (file_at files f) (symbol_at (file_at files f) r.symbol) r (bound_within files b f r.symbol is few lt live))
