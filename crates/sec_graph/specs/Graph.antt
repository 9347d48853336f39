-- Which sections each section leads to, by section number: the sections that its relocations name, by a symbol or by the start or the end of
-- their name, those that its functions' unwind records name (LSB Core, "Exception Frames"), those that go with it (System V gABI, "Sections":
-- SHF_LINK_ORDER), and those of its groups ("Section Groups").
use Rattle.std.specs.Prelude.{◌≡◌, ℕ, ◌&&◌, ◌==◌, not, nat_lt, bit_and, Bool, if◌then◌else◌, List, [], ◌∷◌, ◌++◌, length, map, filter, flat_map}
use Rattle.std.specs.List.{range_with_len}
use Rattle.std.specs.List.Sorted.{IsNonDecreasingBy}
use Rattle.link_sections.specs.InputSections.{is_own, may_stay}
use Rattle.lk_base.specs.RelocKinds.{names_a_symbol}
use Rattle.lk_base.specs.declared.abi.TheConstants.{SHF_LINK_ORDER}
use Rattle.lk_tables.specs.declared.bounds.Spot.{Spot}
use Rattle.lk_tables.specs.declared.bounds.Spot.TheVariants as targets
use Rattle.lk_tables.specs.declared.heads.Section.{Section}
use Rattle.lk_tables.specs.declared.objects.Reloc.{Reloc}
use Rattle.lk_tables.specs.declared.records.FrameNo.{FrameNo}
use Rattle.lk_tables.specs.Binding.{Bindings}
use Rattle.lk_tables.specs.Files.{File, file_at, section_at, section_no, relocs_at, by_section}
use Rattle.lk_tables.specs.Frames.{all_lists, frames_at}
use Rattle.lk_tables.specs.LinkerSymbols.{bound_sections}
use Rattle.lk_tables.specs.Objects.{GroupView}
use Rattle.lk_tables.specs.Sites.{place_of}
use Rattle.lk_tables.specs.Targets.{spot_of}
use Rattle.sec_graph.specs.declared.pairs.Pair.{Pair}
use Rattle.sec_graph.specs.FrameRelocs.{cies_of, others, record_by}
use Rattle.sec_graph.specs.Taken.{section_of}

abbrev pub pair : (from to : ℕ) → Pair
pair from to = record { from = from; to = to }

-- a section goes with another one of its file: it is flagged LINK_ORDER, and its sh_link names a section (0, SHN_UNDEF, names none)
unfoldable pub is_linked : File → Section → Bool
is_linked file s = not (bit_and s.flags SHF_LINK_ORDER == 0) && (not (s.link == 0) && nat_lt s.link (length file.head.sections))

-- from section m on each leads to the next, and the last one to section `first`
abbrev pub chain : (m : ℕ) → List ℕ → (first : ℕ) → List Pair
chain m [] first = pair m first ∷ []
chain m (n ∷ ns) first = pair m n ∷ chain n ns first

-- each section leads to the next, and the last one to the first: so each leads to all others
abbrev pub ring : List ℕ → List Pair
ring [] = []
ring (m ∷ ms) = chain m ms m

-- the pairs of a list that lead from a section
abbrev pub pairs_from : (section : ℕ) → List Pair → List Pair
pairs_from section pairs = filter (λ p. p.from == section) pairs

-- they stand in order of the section that leads
abbrev pub Rises : List Pair → Type 0
Rises pairs = IsNonDecreasingBy (λ p. p.from) pairs

-- the pairs of a list in this order: from each section lead the same
pub record AreBySection (pairs sorted : List Pair) : Type 0 where
  pub rises : Rises sorted
  pub same : (section : ℕ) → pairs_from section sorted ≡ pairs_from section pairs

module _ (files : List File) (b : Bindings) where
  -- the section in which a target stands, if it stands in one; the start or the end of a name means all sections of that name
  abbrev pub section_in : Spot → List ℕ
  section_in (targets.Section section offset rest) = section ∷ []
  section_in (targets.Number n) = []
  section_in targets.Zero = []
  section_in (targets.Linker n) = bound_sections files b n
  section_in targets.Unbound = []

  -- the sections that relocation r of file f names
  unfoldable pub target_in : (f : ℕ) → Reloc → List ℕ
  target_in f r = if names_a_symbol r.kind then section_in (spot_of files b f r) else []

  abbrev pub targets_in : (f k : ℕ) → List ℕ
  targets_in f k = flat_map (target_in f) (relocs_at (file_at files f) k)

  -- section j of file f follows the section that it goes with
  unfoldable pub link_at : (f j : ℕ) → List Pair
  link_at f j = if is_linked (file_at files f) (section_at (file_at files f) j) && may_stay files b f j
      then pair (section_no files f (section_at (file_at files f) j).link) (section_no files f j) ∷ [] else []

  abbrev pub links_in : ℕ → List Pair
  links_in f = flat_map (link_at f) (range_with_len 0 (length (file_at files f).head.sections))

  -- the members of a group that may stay; an index that is not below the number of the file's own sections is no member
  unfoldable pub member_at : (f m : ℕ) → List ℕ
  member_at f m = if is_own files b f m && may_stay files b f m then section_no files f m ∷ [] else []

  abbrev pub ring_in : (f : ℕ) → GroupView → List Pair
  ring_in f group = ring (flat_map (member_at f) group.members)

  -- all sections of a file that lead to another one without a relocation
  abbrev pub joined_in : ℕ → List Pair
  joined_in f = links_in f ++ flat_map (ring_in f) (file_at files f).object.groups

  -- the section in which relocation r of a record of file f stands; the start or the end of a name means none here
  unfoldable pub record_target : (f : ℕ) → Reloc → List ℕ
  record_target f r = if names_a_symbol r.kind then section_of (spot_of files b f r) else []

  abbrev pub record_targets : FrameNo → List Reloc → List ℕ
  record_targets number rs = flat_map (record_target (place_of files number.section).file) rs

  -- the sections that an FDE names beside that of its function, and those that a CIE names
  abbrev pub fde_ends : FrameNo → List ℕ
  fde_ends number = record_targets number (others (record_by (all_lists files) number).relocs)

  abbrev pub cie_ends : FrameNo → List ℕ
  cie_ends number = record_targets number (record_by (all_lists files) number).relocs

  -- the sections that FDEs name, and then those that their CIEs name
  unfoldable pub frame_ends : (fdes : List FrameNo) → List ℕ
  frame_ends fdes = flat_map fde_ends fdes ++ flat_map cie_ends (cies_of (all_lists files) fdes)

  abbrev pub frame_ends_in : (f k : ℕ) → List ℕ
  frame_ends_in f k = frame_ends (frames_at files b (all_lists files) (section_no files f k))

  -- where section k of file f leads, if it may stay
  unfoldable pub ends_in : (f k : ℕ) → List ℕ
  ends_in f k = if may_stay files b f k
      then (targets_in f k ++ frame_ends_in f k) ++ map (λ p. p.to) (pairs_from (section_no files f k) (joined_in f)) else []

  unfoldable pub edges : List (List ℕ)
  edges = by_section files ends_in
