-- The ends of all sections are section numbers.
use Rattle.std.proofs.Common.{◌≡◌, ℕ, zero, suc, ◌+◌, ◌<◌, ◌==◌, ◌&&◌, true, not, List, [], ◌∷◌, ◌++◌, length, map, flat_map, All, Contains, arith}
use Rattle.std.specs.Prelude.{filter}
use Rattle.std.specs.List.{range_with_len}
use Rattle.std.proofs.lemmas.Bool.{and_parts, ltb-true}
use Rattle.std.proofs.lemmas.List.Elements.{All-nil, All-cons, All-head, All-tail, All-append, All-contains, All-contains_itself, All-filter, All-map, All-weaker}
use Rattle.lk_base.specs.declared.abi.TheConstants.{STB_WEAK}
use Rattle.link_sections.specs.InputSections.{input_at, is_own, may_stay}
use Rattle.lk_base.specs.RelocKinds.{goes_by_got, names_a_symbol}
use Rattle.lk_tables.specs.declared.bounds.Bound.{Bound}
use Rattle.lk_tables.specs.declared.bounds.Bound.TheVariants.{InSection, Number, Linker, Nobody}
use Rattle.lk_tables.specs.declared.bounds.Spot.TheVariants as targets
use Rattle.lk_tables.specs.declared.heads.Symbol.{Symbol}
use Rattle.lk_tables.specs.declared.objects.Reloc.{Reloc}
use Rattle.lk_tables.specs.declared.records.FrameNo.{FrameNo}
use Rattle.lk_tables.specs.BoundNames.{IsBindingOf}
use Rattle.lk_tables.specs.Binding.{Bindings}
use Rattle.lk_tables.specs.Files.{AreFew, File, by_section, file_at, is_section_symbol, relocs_at, section_at, section_count, section_no, section_total, symbol_at}
use Rattle.lk_tables.specs.Frames.{all_lists, frames_at}
use Rattle.lk_tables.specs.LinkerSymbols.{all_named, bound_section, bound_sections, is_bound_no, is_named}
use Rattle.lk_tables.specs.Objects.{GroupView}
use Rattle.lk_tables.specs.Sites.{place_of}
use Rattle.lk_tables.specs.Targets.{bound, spot_by, spot_of}
use Rattle.lk_tables.proofs.BoundWithin.{IsWithin, bound_within}
use Rattle.lk_tables.proofs.BoundHas.{each_flat, each_if, either, one_if}
use Rattle.lk_tables.proofs.FirstNumbers.{section_within}
use Rattle.lk_tables.proofs.LiveFiles.{counted, live_from}
use Rattle.lk_tables.proofs.Owners.{place_of_number}
use Rattle.sec_graph.specs.declared.pairs.Pair.{Pair}
use Rattle.sec_graph.specs.Graph.{chain, edges, ends_in, frame_ends_in, is_linked, joined_in, link_at, links_in, member_at, pair, pairs_from, record_target, ring, ring_in, section_in, target_in, targets_in}
use Rattle.sec_graph.specs.FrameRelocs.{frame_relocs}
use Rattle.sec_graph.proofs.FrameEnds.{fdes_below, frames_from, record_below}
use Rattle.sec_graph.proofs.ListParts.{each_passed}

-- the sections of a live file have numbers below the total
pub own_below : (files : List File) (f k : ℕ) → f < length files → (file_at files f).live ≡ true → k < length (file_at files f).head.sections →
    section_no files f k < section_total files
own_below files f k lt live below = omega (arith, counted (file_at files f) live, section_within files f lt)

-- each target is in a section with such a number
one_section : (total section : ℕ) → section < total → All (λ n. n < total) (section ∷ [])
one_section total section lt = All-cons (λ n. n < total) section [] lt (All-nil (λ n. n < total))

bounds_below : (files : List File) (b : Bindings) (n : ℕ) → All (λ n. n < section_total files) (bound_sections files b n)
unfolding bound_sections all_named
bounds_below files b n =
    let P : ℕ → Type 0 = λ n. n < section_total files in
    let test = is_named files b (input_at files b (bound_section n)).name in
    each_if P (is_bound_no n) (filter test (range_with_len 0 (section_total files))) (λ _.
    each_passed P test 0 (section_total files) (λ k lt named. omega (arith, lt)))

target_below : (files : List File) (b : Bindings) (found : Bound) (file : File) (s : Symbol) (r : Reloc) → IsWithin files found →
    All (λ n. n < section_total files) (section_in files b (spot_by found file s r))
target_below files b (InSection section offset) file s r lt =
    let one = one_section (section_total files) section lt in
    either (λ t. All (λ n. n < section_total files) (section_in files b t)) (is_section_symbol s && not (goes_by_got r.kind)) _ _ one one
target_below files b (Number n) file s r lt = All-nil (λ n. n < section_total files)
target_below files b (Linker n) file s r lt = bounds_below files b n
target_below files b Nobody file s r lt =
    let none = All-nil (λ n. n < section_total files) in
    either (λ t. All (λ n. n < section_total files) (section_in files b t)) (s.binding == STB_WEAK) targets.Zero targets.Unbound none none

targets_below : (files : List File) (b : Bindings) (f : ℕ) (rs : List Reloc) → IsBindingOf files b → AreFew files → f < length files → (file_at files f).live ≡ true →
    All (λ n. n < section_total files) (flat_map (target_in files b f) rs)
unfolding target_in spot_of
targets_below files b f [] is few lt live = All-nil (λ n. n < section_total files)
targets_below files b f (r ∷ rs) is few lt live =
    let P : ℕ → Type 0 = λ n. n < section_total files in
    All-append P (target_in files b f r) (flat_map (target_in files b f) rs)
    (each_if P (names_a_symbol r.kind) (section_in files b (spot_of files b f r)) (λ names.
    target_below files b (bound files b f r.symbol) (file_at files f) (symbol_at (file_at files f) r.symbol) r (bound_within files b f r.symbol is few lt live)))
    (targets_below files b f rs is few lt live)

-- and what sections of a file lead to
abbrev pub EndsBelow : (total : ℕ) → Pair → Type 0
EndsBelow total p = p.to < total

links_below : (files : List File) (b : Bindings) (f : ℕ) → f < length files → (file_at files f).live ≡ true → All (EndsBelow (section_total files)) (links_in files b f)
unfolding link_at
links_below files b f lt live =
    each_flat (EndsBelow (section_total files)) (link_at files b f) 0 (length (file_at files f).head.sections) (λ j below.
    let s = section_at (file_at files f) j in
    one_if (EndsBelow (section_total files)) (is_linked (file_at files f) s && may_stay files b f j) (pair (section_no files f s.link) (section_no files f j))
    (λ is. own_below files f j lt live (omega (arith, below))))

chain_below : (total m : ℕ) (ns : List ℕ) (first : ℕ) → first < total → All (λ n. n < total) ns → All (EndsBelow total) (chain m ns first)
chain_below total m [] first lt all = All-cons (EndsBelow total) (pair m first) [] lt (All-nil (EndsBelow total))
chain_below total m (n ∷ ns) first lt all =
    let P : ℕ → Type 0 = λ n. n < total in
    All-cons (EndsBelow total) (pair m n) (chain n ns first) (All-head P n ns all) (chain_below total n ns first lt (All-tail P n ns all))

ring_below : (total : ℕ) (ms : List ℕ) → All (λ n. n < total) ms → All (EndsBelow total) (ring ms)
ring_below total [] all = All-nil (EndsBelow total)
ring_below total (m ∷ ms) all =
    let P : ℕ → Type 0 = λ n. n < total in
    chain_below total m ms m (All-head P m ms all) (All-tail P m ms all)

pub members_below : (files : List File) (b : Bindings) (f : ℕ) (ms : List ℕ) → f < length files → (file_at files f).live ≡ true →
    All (λ n. n < section_total files) (flat_map (member_at files b f) ms)
unfolding member_at
members_below files b f [] lt live = All-nil (λ n. n < section_total files)
members_below files b f (m ∷ ms) lt live =
    let P : ℕ → Type 0 = λ n. n < section_total files in
    All-append P (member_at files b f m) (flat_map (member_at files b f) ms)
    (one_if P (is_own files b f m && may_stay files b f m) (section_no files f m) (λ is.
    own_below files f m lt live (ltb-true m (length (file_at files f).head.sections) (and_parts _ _ is).0)))
    (members_below files b f ms lt live)

rings_below : (files : List File) (b : Bindings) (f : ℕ) (gs : List GroupView) → f < length files → (file_at files f).live ≡ true →
    All (EndsBelow (section_total files)) (flat_map (ring_in files b f) gs)
rings_below files b f [] lt live = All-nil (EndsBelow (section_total files))
rings_below files b f (g ∷ gs) lt live =
    All-append (EndsBelow (section_total files)) (ring_in files b f g) (flat_map (ring_in files b f) gs)
    (ring_below (section_total files) (flat_map (member_at files b f) g.members) (members_below files b f g.members lt live))
    (rings_below files b f gs lt live)

frames_below : (files : List File) (b : Bindings) (f k : ℕ) → IsBindingOf files b → AreFew files → All (λ n. n < section_total files) (frame_ends_in files b f k)
frames_below files b f k is few =
    let P : ℕ → Type 0 = λ n. n < section_total files in
    let fdes = frames_at files b (all_lists files) (section_no files f k) in
    frames_from files b P fdes (λ fde has.
    let relocs = frame_relocs (all_lists files) fde in
    let low = All-contains (λ (number : FrameNo). number.section < section_total files) fdes fde (fdes_below files b (section_no files f k)) has in
    let place = place_of_number files fde.section low in
    let file = (place_of files fde.section).file in
    let live = live_from (file_at files file) (place_of files fde.section).index place.index in
    All-weaker (Contains relocs) (λ r. All P (record_target files b file r)) (λ r among. record_below files b file r is few place.file live) relocs (All-contains_itself relocs))

pub ends_below : (files : List File) (b : Bindings) (f k : ℕ) → IsBindingOf files b → AreFew files → f < length files → k < section_count (file_at files f) →
    All (λ n. n < section_total files) (ends_in files b f k)
unfolding ends_in
ends_below files b f k is few lt below =
    let P : ℕ → Type 0 = λ n. n < section_total files in
    let live = live_from (file_at files f) k below in
    let total = section_total files in
    let from = pairs_from (section_no files f k) (joined_in files b f) in
    let own = targets_in files b f k in
    let framed = frame_ends_in files b f k in
    each_if P (may_stay files b f k) ((own ++ framed) ++ map (λ (p : Pair). p.to) from) (λ stays.
    All-append P (own ++ framed) (map (λ (p : Pair). p.to) from)
    (All-append P own framed (targets_below files b f (relocs_at (file_at files f) k) is few lt live) (frames_below files b f k is few))
    (All-map P (λ (p : Pair). p.to) from (All-filter (λ (p : Pair). p.from == section_no files f k) (EndsBelow total) (joined_in files b f)
    (All-append (EndsBelow total) (links_in files b f) (flat_map (ring_in files b f) (file_at files f).object.groups)
    (links_below files b f lt live) (rings_below files b f (file_at files f).object.groups lt live)))))

pub map_each : {X : Type 0} (P : X → Type 0) (f : ℕ → X) (from n : ℕ) → ((k : ℕ) → k < from + n → P (f k)) → All P (map f (range_with_len from n))
map_each P f from zero each = All-nil P
map_each P f from (suc n) each =
    All-cons P (f from) (map f (range_with_len (from + 1) n)) (each from (omega arith)) (map_each P f (from + 1) n (λ k lt. each k (omega (arith, lt))))

pub edges_below : (files : List File) (b : Bindings) → IsBindingOf files b → AreFew files → All (All (λ n. n < section_total files)) (edges files b)
unfolding edges by_section
edges_below files b is few =
    let P : List ℕ → Type 0 = λ ns. All (λ n. n < section_total files) ns in
    each_flat P (λ f. map (ends_in files b f) (range_with_len 0 (section_count (file_at files f)))) 0 (length files) (λ f lt.
    map_each P (ends_in files b f) 0 (section_count (file_at files f)) (λ k below.
    ends_below files b f k is few (omega (arith, lt)) (omega (arith, below))))
