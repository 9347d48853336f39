-- A set of sections that is closed by the rules is one that has, with each section, the ends of its list.
use Rattle.std.proofs.Common.{◌≡◌, ◌≢◌, ℕ, ◌-◌, ◌<◌, ◌≤◌, ◌==◌, ◌&&◌, ℤ, Bool, true, not, List, [], ◌∷◌, ◌++◌, length, map, flat_map, get_or, All, Contains, bit_and, refl, sym, ap, ◌∙◌, subst, arith, inl, inr}
use Rattle.std.specs.Prelude.{◌↔◌, filter, nat_lt, slice_index_or}
use Rattle.std.specs.List.{range_with_len}
use Rattle.std.proofs.lemmas.Bool.{and_parts, cases_Bool, cases_lt, cond-true, cond-false, eq-eqb, eqb-true, ltb-true, lt-ltb, ne_eqb, and_from}
use Rattle.std.specs.Str.{bytes_eq}
use Rattle.std.proofs.lemmas.Slice.Eq.{bytes_eq-Decides}
use Rattle.std.proofs.lemmas.List.{get_or_past}
use Rattle.std.proofs.lemmas.List.Elements.{All-nil, All-cons, All-head, All-tail, All-append, All-map, All-weaker, All-contains, All-contains_itself}
use Rattle.link_sections.specs.InputSections.{input_at, input_of, is_own, may_stay, may_stay_at}
use Rattle.lk_base.specs.RelocKinds.{names_a_symbol}
use Rattle.lk_base.specs.declared.abi.TheConstants.{SHF_LINK_ORDER}
use Rattle.lk_base.proofs.Membership.{in_range}
use Rattle.lk_tables.specs.declared.bounds.Spot.{Spot}
use Rattle.lk_tables.specs.declared.bounds.Spot.TheVariants as targets
use Rattle.lk_tables.specs.declared.heads.Section.{Section}
use Rattle.lk_tables.specs.declared.objects.Reloc.{Reloc}
use Rattle.lk_tables.specs.declared.records.FrameNo.{FrameNo}
use Rattle.lk_tables.specs.Binding.{Bindings}
use Rattle.lk_tables.specs.Files.{File, by_section, file_at, first_section, no_section, relocs_at, section_at, section_count, section_no, section_total}
use Rattle.lk_tables.specs.declared.section_places.SectionPlace.{SectionPlace}
use Rattle.lk_tables.specs.Frames.{all_lists, frames_at}
use Rattle.lk_tables.specs.LinkerSymbols.{all_named, bound_section, bound_sections, is_bound_no, is_named}
use Rattle.lk_tables.specs.Objects.{GroupView}
use Rattle.lk_tables.specs.Sites.{place_of}
use Rattle.lk_tables.specs.Targets.{spot_of}
use Rattle.lk_tables.proofs.BoundHas.{each_flat, each_if, one_if}
use Rattle.lk_tables.proofs.ByNumber.{length_by_section, read_by_section}
use Rattle.lk_tables.proofs.FirstNumbers.{section_more, section_within}
use Rattle.lk_tables.proofs.LiveFiles.{counted, live_from}
use Rattle.lk_tables.proofs.Owners.{IsOwner, owner_below, place_is, place_of_number}
use Rattle.sec_graph.specs.declared.pairs.Pair.{Pair}
use Rattle.sec_graph.specs.Graph.{chain, edges, ends_in, frame_ends_in, is_linked, joined_in, link_at, links_in, member_at, pair, pairs_from, record_target, ring, ring_in, section_in, target_in, targets_in}
use Rattle.sec_graph.specs.FrameRelocs.{frame_relocs}
use Rattle.sec_graph.specs.Kept.{HasEnds, IsClosedByRules, IsInTable, MayStay}
use Rattle.sec_graph.specs.Taken.{section_of}
use Rattle.sec_graph.proofs.FrameEnds.{alone_all, frames_from, frames_to}
use Rattle.sec_graph.proofs.ListParts.{all_if, all_left, all_right, each_of, each_passed, head_if, map_all, one_passed, part_of}

-- a member of a set, and a pair that leads from a section into it
abbrev pub In : (ℕ → Bool) → ℕ → Type 0
In s n = s n ≡ true

abbrev pub Leads : (ℕ → Bool) → (from : ℕ) → Pair → Type 0
Leads s from p = p.from ≡ from → s p.to ≡ true

-- the ends of the sections of a set are in it
abbrev AllEnds : (lists : List (List ℕ)) → (s : ℕ → Bool) → Type 0
AllEnds lists s = (section : ℕ) → s section ≡ true → All (In s) (slice_index_or lists section [])

-- the pairs that lead from a section
pub leads_from : (s : ℕ → Bool) (from : ℕ) (ps : List Pair) → All (Leads s from) ps → All (λ (p : Pair). In s p.to) (pairs_from from ps)
leads_from s from [] all = All-nil (λ (p : Pair). In s p.to)
leads_from s from (p ∷ ps) all =
    let P : Pair → Type 0 = λ p. In s p.to in
    let later = leads_from s from ps (All-tail (Leads s from) p ps all) in
    let here = All-head (Leads s from) p ps all in
    elim (cases_Bool (p.from == from)) [
      | inl same ↦ rw (cond-true (p.from == from) (p ∷ pairs_from from ps) (pairs_from from ps) same) (All-cons P p (pairs_from from ps) (here (eqb-true p.from from same)) later)
      | inr other ↦ rw (cond-false (p.from == from) (p ∷ pairs_from from ps) (pairs_from from ps) other) later
    ]

leads_all : (s : ℕ → Bool) (from : ℕ) (ps : List Pair) → All (λ (p : Pair). In s p.to) (pairs_from from ps) → All (Leads s from) ps
leads_all s from [] all = All-nil (Leads s from)
leads_all s from (p ∷ ps) all =
    let P : Pair → Type 0 = λ p. In s p.to in
    let Q : List Pair → Type 0 = λ l. All P l in
    elim (cases_Bool (p.from == from)) [
      | inl same ↦
          let own : All P (p ∷ pairs_from from ps) = subst Q (cond-true (p.from == from) (p ∷ pairs_from from ps) (pairs_from from ps) same) all in
          All-cons (Leads s from) p ps (λ _. All-head P p (pairs_from from ps) own) (leads_all s from ps (All-tail P p (pairs_from from ps) own))
      | inr other ↦
          let own : All P (pairs_from from ps) = subst Q (cond-false (p.from == from) (p ∷ pairs_from from ps) (pairs_from from ps) other) all in
          All-cons (Leads s from) p ps (λ is. let yes : (p.from == from) ≡ true = eq-eqb p.from from is in let no : ⊥ = cc in absurd no) (leads_all s from ps own)
    ]

-- a ring: both ends of a pair are of the list; if each pair keeps the set, one of the list brings all
unfoldable pub Both : (ℕ → Type 0) → Pair → Type 0
Both P p = P p.from × P p.to

chain_both : (P : ℕ → Type 0) (m : ℕ) (ns : List ℕ) (first : ℕ) → P m → P first → All P ns → All (Both P) (chain m ns first)
unfolding Both
chain_both P m [] first own back all = All-cons (Both P) (pair m first) [] (own, back) (All-nil (Both P))
chain_both P m (n ∷ ns) first own back all =
    let next = All-head P n ns all in
    All-cons (Both P) (pair m n) (chain n ns first) (own, next) (chain_both P n ns first next back (All-tail P n ns all))

ring_both : (P : ℕ → Type 0) (ms : List ℕ) → All P ms → All (Both P) (ring ms)
ring_both P [] all = All-nil (Both P)
ring_both P (m ∷ ms) all = chain_both P m ms m (All-head P m ms all) (All-head P m ms all) (All-tail P m ms all)

Keeps : (ℕ → Bool) → Pair → Type 0
Keeps s p = s p.from ≡ true → s p.to ≡ true

chain_on : (s : ℕ → Bool) (m : ℕ) (ns : List ℕ) (first : ℕ) → All (Keeps s) (chain m ns first) → s m ≡ true → All (In s) ns × (s first ≡ true)
unfolding Keeps
chain_on s m [] first keeps is = (All-nil (In s), All-head (Keeps s) (pair m first) [] keeps is)
chain_on s m (n ∷ ns) first keeps is =
    let next = All-head (Keeps s) (pair m n) (chain n ns first) keeps is in
    let later = chain_on s n ns first (All-tail (Keeps s) (pair m n) (chain n ns first) keeps) next in
    (All-cons (In s) n ns next later.0, later.1)

chain_back : (s : ℕ → Bool) (m : ℕ) (ns : List ℕ) (first : ℕ) → All (Keeps s) (chain m ns first) → All (λ n. s n ≡ true → s first ≡ true) (m ∷ ns)
chain_back s m [] first keeps =
    let P : ℕ → Type 0 = λ n. s n ≡ true → s first ≡ true in
    All-cons P m [] (λ is. let on = chain_on s m [] first keeps is in on.1) (All-nil P)
chain_back s m (n ∷ ns) first keeps =
    let P : ℕ → Type 0 = λ n. s n ≡ true → s first ≡ true in
    All-cons P m (n ∷ ns) (λ is. let on = chain_on s m (n ∷ ns) first keeps is in on.1)
    (chain_back s n ns first (All-tail (Keeps s) (pair m n) (chain n ns first) keeps))

ring_all : (s : ℕ → Bool) (ms : List ℕ) → All (Keeps s) (ring ms) → All (λ n. s n ≡ true → All (In s) ms) ms
ring_all s [] keeps = All-nil (λ n. s n ≡ true → All (In s) [])
ring_all s (m ∷ ms) keeps =
    All-weaker (λ n. s n ≡ true → s m ≡ true) (λ n. s n ≡ true → All (In s) (m ∷ ms))
    (λ n back is. let own = back is in let on = chain_on s m ms m keeps own in All-cons (In s) m ms own on.0) (m ∷ ms) (chain_back s m ms m keeps)

-- a member of a group that may stay, by its number
unfoldable pub Member : List File → Bindings → (f : ℕ) → List ℕ → ℕ → Type 0
Member files b f members n = (m : ℕ) × Contains members m × IsInTable files f m × (may_stay files b f m ≡ true) × (n ≡ section_no files f m)

pub members_are : (files : List File) (b : Bindings) (f : ℕ) (members : List ℕ) → All (Member files b f members) (flat_map (member_at files b f) members)
unfolding member_at Member
members_are files b f members =
    each_of (Member files b f members) (member_at files b f) members (λ m has.
    one_if (Member files b f members) (is_own files b f m && may_stay files b f m) (section_no files f m) (λ is.
    let both = and_parts _ _ is in
    (m, has, ltb-true m (length (file_at files f).head.sections) both.0, both.1, refl)))

-- the lists of the sections of a file, and of no section
pub lists_at : (files : List File) (b : Bindings) (f k : ℕ) → f < length files → k < section_count (file_at files f) →
    slice_index_or (edges files b) (section_no files f k) [] ≡ ends_in files b f k
unfolding edges
lists_at files b f k lt less = read_by_section files (ends_in files b) f k [] lt less

pub lists_past : (files : List File) (b : Bindings) (n : ℕ) → section_total files ≤ n → slice_index_or (edges files b) n [] ≡ []
unfolding edges
lists_past files b n le = get_or_past (by_section files (ends_in files b)) n [] (omega (arith, le, length_by_section files (ends_in files b)))

-- the rules say it of each section's list
section_all : (files : List File) (b : Bindings) (P : ℕ → Type 0) (t : Spot) → ((section offset : ℕ) (rest : ℤ) → t ≡ targets.Section section offset rest → P section) →
    ((n : ℕ) → t ≡ targets.Linker n → All P (bound_sections files b n)) → All P (section_in files b t)
section_all files b P (targets.Section section offset rest) each bounds = All-cons P section [] (each section offset rest refl) (All-nil P)
section_all files b P (targets.Number n) each bounds = All-nil P
section_all files b P targets.Zero each bounds = All-nil P
section_all files b P (targets.Linker n) each bounds = bounds n refl
section_all files b P targets.Unbound each bounds = All-nil P

-- the sections of the name whose start or end a relocation refers to
bounds_closed : (files : List File) (b : Bindings) (s : ℕ → Bool) (f k : ℕ) (r : Reloc) (n : ℕ) → IsClosedByRules files b s → MayStay files b f k →
    s (section_no files f k) ≡ true → Contains (relocs_at (file_at files f) k) r → names_a_symbol r.kind ≡ true → spot_of files b f r ≡ targets.Linker n →
    All (In s) (bound_sections files b n)
unfolding bound_sections all_named is_named
bounds_closed files b s f k r n rules stays is has names same =
    let text = (input_at files b (bound_section n)).name in
    each_if (In s) (is_bound_no n) (filter (is_named files b text) (range_with_len 0 (section_total files))) (λ bounds.
    each_passed (In s) (is_named files b text) 0 (section_total files) (λ m lt named.
    let both = and_parts (may_stay_at files b m) (bytes_eq (input_at files b m).name text) named in
    let place = place_of_number files m (omega (arith, lt)) in
    let other : MayStay files b (place_of files m).file (place_of files m).index = record { file = place.file; index = place.index; stays = both.0 } in
    subst (In s) place.number
    (rules.bounds f k (place_of files m).file (place_of files m).index r n stays is has names same bounds other ((bytes_eq-Decides (input_at files b m).name text).0 both.1))))

-- these may be kept
pub bounds_stay : (files : List File) (b : Bindings) (n : ℕ) → All (λ m. may_stay_at files b m ≡ true) (bound_sections files b n)
unfolding bound_sections all_named is_named
bounds_stay files b n =
    let text = (input_at files b (bound_section n)).name in
    let P : ℕ → Type 0 = λ m. may_stay_at files b m ≡ true in
    each_if P (is_bound_no n) (filter (is_named files b text) (range_with_len 0 (section_total files))) (λ _.
    each_passed P (is_named files b text) 0 (section_total files) (λ m lt named. (and_parts (may_stay_at files b m) (bytes_eq (input_at files b m).name text) named).0))

pub same_index : (files : List File) (f i k : ℕ) → section_no files f i ≡ section_no files f k → i ≡ k
same_index files f i k same = omega (arith, same)

targets_closed : (files : List File) (b : Bindings) (s : ℕ → Bool) (f k : ℕ) → IsClosedByRules files b s → MayStay files b f k → s (section_no files f k) ≡ true →
    All (In s) (targets_in files b f k)
unfolding target_in
targets_closed files b s f k rules stays is =
    each_of (In s) (target_in files b f) (relocs_at (file_at files f) k) (λ r has.
    each_if (In s) (names_a_symbol r.kind) (section_in files b (spot_of files b f r)) (λ names.
    section_all files b (In s) (spot_of files b f r) (λ section offset rest same. rules.targets f k r section offset rest stays is has names same)
    (λ n same. bounds_closed files b s f k r n rules stays is has names same)))

-- what the unwind records of a section's functions name
frames_closed : (files : List File) (b : Bindings) (s : ℕ → Bool) (f k : ℕ) → IsClosedByRules files b s → MayStay files b f k → s (section_no files f k) ≡ true →
    All (In s) (frame_ends_in files b f k)
unfolding record_target
frames_closed files b s f k rules stays is =
    frames_from files b (In s) (frames_at files b (all_lists files) (section_no files f k)) (λ fde has.
    let relocs = frame_relocs (all_lists files) fde in
    let file = (place_of files fde.section).file in
    All-weaker (Contains relocs) (λ r. All (In s) (record_target files b file r)) (λ r among.
    each_if (In s) (names_a_symbol r.kind) (section_of (spot_of files b file r)) (λ names.
    alone_all (In s) (spot_of files b file r) (λ section offset rest same. rules.frames f k fde r section offset rest stays is has among names same)))
    relocs (All-contains_itself relocs))

nonzero : (d : ℕ) → not (d == 0) ≡ true → d ≢ 0
nonzero d is none = let yes : (d == 0) ≡ true = eq-eqb d 0 none in let no : ⊥ = cc in absurd no

links_closed : (files : List File) (b : Bindings) (s : ℕ → Bool) (f k : ℕ) → IsClosedByRules files b s → MayStay files b f k → s (section_no files f k) ≡ true →
    All (Leads s (section_no files f k)) (links_in files b f)
unfolding link_at is_linked
links_closed files b s f k rules stays is =
    let P : Pair → Type 0 = Leads s (section_no files f k) in
    let live = live_from (file_at files f) k stays.index in
    each_flat P (link_at files b f) 0 (length (file_at files f).head.sections) (λ j below.
    let section = section_at (file_at files f) j in
    one_if P (is_linked (file_at files f) section && may_stay files b f j) (pair (section_no files f section.link) (section_no files f j)) (λ both same.
    let parts = and_parts _ _ both in
    let linked = and_parts _ _ parts.0 in
    let named = and_parts _ _ linked.1 in
    let link : section.link ≡ k = same_index files f section.link k same in
    let among : section.link < length (file_at files f).head.sections = ltb-true _ _ named.1 in
    let other : section.link ≢ 0 = nonzero section.link named.0 in
    rules.links f k j stays (omega (arith, among, link)) is
    (record { file = stays.file; index = omega (arith, below, counted (file_at files f) live); stays = parts.1 })
    (nonzero (bit_and section.flags SHF_LINK_ORDER) linked.0) link (λ none. other (link ∙ none))))

rings_closed : (files : List File) (b : Bindings) (s : ℕ → Bool) (f k : ℕ) → IsClosedByRules files b s → MayStay files b f k → s (section_no files f k) ≡ true →
    All (Leads s (section_no files f k)) (flat_map (ring_in files b f) (file_at files f).object.groups)
unfolding Both Member
rings_closed files b s f k rules stays is =
    let P : Pair → Type 0 = Leads s (section_no files f k) in
    let live = live_from (file_at files f) k stays.index in
    let wide = counted (file_at files f) live in
    each_of P (ring_in files b f) (file_at files f).object.groups (λ group has.
    let Q : ℕ → Type 0 = Member files b f group.members in
    All-weaker (Both Q) P (λ p both same.
    let from : Q p.from = both.0 in
    let to : Q p.to = both.1 in
    let here : from.0 ≡ k = same_index files f from.0 k (sym from.4 ∙ same) in
    let M : ℕ → Type 0 = λ m. Contains group.members m in
    let there : s (section_no files f to.0) ≡ true =
    rules.groups f k to.0 group has (subst M here from.1) to.1 stays (omega (arith, here, from.2))
    (record { file = stays.file; index = omega (arith, to.2, wide); stays = to.3 }) to.2 is in
    ap s to.4 ∙ there)
    (ring (flat_map (member_at files b f) group.members)) (ring_both Q (flat_map (member_at files b f) group.members) (members_are files b f group.members)))

ends_closed : (files : List File) (b : Bindings) (s : ℕ → Bool) (f k : ℕ) → IsClosedByRules files b s → f < length files → k < section_count (file_at files f) →
    s (section_no files f k) ≡ true → All (In s) (ends_in files b f k)
unfolding ends_in
ends_closed files b s f k rules lt less is =
    let from = pairs_from (section_no files f k) (joined_in files b f) in
    let P : Pair → Type 0 = Leads s (section_no files f k) in
    let own = targets_in files b f k in
    let framed = frame_ends_in files b f k in
    each_if (In s) (may_stay files b f k) ((own ++ framed) ++ map (λ (p : Pair). p.to) from) (λ may.
    let stays : MayStay files b f k = record { file = lt; index = less; stays = may } in
    All-append (In s) (own ++ framed) (map (λ (p : Pair). p.to) from)
    (All-append (In s) own framed (targets_closed files b s f k rules stays is) (frames_closed files b s f k rules stays is))
    (All-map (In s) (λ (p : Pair). p.to) from (leads_from s (section_no files f k) (joined_in files b f)
    (All-append P (links_in files b f) (flat_map (ring_in files b f) (file_at files f).object.groups)
    (links_closed files b s f k rules stays is) (rings_closed files b s f k rules stays is)))))

has_ends : (files : List File) (b : Bindings) (s : ℕ → Bool) → IsClosedByRules files b s → AllEnds (edges files b) s
has_ends files b s rules n is =
    let P : List ℕ → Type 0 = λ ends. All (In s) ends in
    elim (cases_lt n (section_total files)) [
      | inl below ↦
          let own = owner_below files n (length files) (omega arith) below in
          let f : ℕ = own.0 in
          let owner : IsOwner files n f = own.1 in
          let k : ℕ = n - first_section files f in
          let from = owner.from in
          let number : section_no files f k ≡ n = omega arith in
          let less : k < section_count (file_at files f) = omega (arith, owner.below, section_more files f owner.file) in
          let lists = ap (λ i. slice_index_or (edges files b) i []) (sym number) ∙ lists_at files b f k owner.file less in
          subst P (sym lists) (ends_closed files b s f k rules owner.file less (ap s number ∙ is))
      | inr past ↦ subst P (sym (lists_past files b n past)) (All-nil (In s))
    ]

-- and the lists say what the rules do
ends_are : (files : List File) (b : Bindings) (s : ℕ → Bool) (f k : ℕ) → AllEnds (edges files b) s → MayStay files b f k → s (section_no files f k) ≡ true →
    All (In s) ((targets_in files b f k ++ frame_ends_in files b f k) ++ map (λ (p : Pair). p.to) (pairs_from (section_no files f k) (joined_in files b f)))
unfolding ends_in
ends_are files b s f k has stays is =
    let P : List ℕ → Type 0 = λ ends. All (In s) ends in
    all_if (In s) (may_stay files b f k) _ stays.stays (subst P (lists_at files b f k stays.file stays.index) (has (section_no files f k) is))

joined_are : (files : List File) (b : Bindings) (s : ℕ → Bool) (f k : ℕ) → AllEnds (edges files b) s → MayStay files b f k → s (section_no files f k) ≡ true →
    All (Leads s (section_no files f k)) (joined_in files b f)
joined_are files b s f k has stays is =
    let from = pairs_from (section_no files f k) (joined_in files b f) in
    leads_all s (section_no files f k) (joined_in files b f)
    (map_all (In s) (λ (p : Pair). p.to) from
    (all_right (In s) (targets_in files b f k ++ frame_ends_in files b f k) (map (λ (p : Pair). p.to) from) (ends_are files b s f k has stays is)))

targets_are : (files : List File) (b : Bindings) (s : ℕ → Bool) (f k : ℕ) (r : Reloc) → AllEnds (edges files b) s → MayStay files b f k →
    s (section_no files f k) ≡ true → Contains (relocs_at (file_at files f) k) r → names_a_symbol r.kind ≡ true → All (In s) (section_in files b (spot_of files b f r))
unfolding target_in
targets_are files b s f k r has stays is among names =
    let from = pairs_from (section_no files f k) (joined_in files b f) in
    let own = targets_in files b f k in
    let framed = frame_ends_in files b f k in
    let all = all_left (In s) own framed (all_left (In s) (own ++ framed) (map (λ (p : Pair). p.to) from) (ends_are files b s f k has stays is)) in
    all_if (In s) (names_a_symbol r.kind) (section_in files b (spot_of files b f r)) names
    (part_of (In s) (target_in files b f) (relocs_at (file_at files f) k) r all among)

target_follows : (files : List File) (b : Bindings) (s : ℕ → Bool) → AllEnds (edges files b) s → (f k : ℕ) (r : Reloc) (section offset : ℕ) (rest : ℤ) →
    MayStay files b f k → s (section_no files f k) ≡ true → Contains (relocs_at (file_at files f) k) r → names_a_symbol r.kind ≡ true →
    spot_of files b f r ≡ targets.Section section offset rest → s section ≡ true
target_follows files b s has f k r section offset rest stays is among names same =
    let P : Spot → Type 0 = λ t. All (In s) (section_in files b t) in
    All-head (In s) section [] (subst P same (targets_are files b s f k r has stays is among names))

frame_follows : (files : List File) (b : Bindings) (s : ℕ → Bool) → AllEnds (edges files b) s → (f k : ℕ) (fde : FrameNo) (r : Reloc) (section offset : ℕ) (rest : ℤ) →
    MayStay files b f k → s (section_no files f k) ≡ true → Contains (frames_at files b (all_lists files) (section_no files f k)) fde →
    Contains (frame_relocs (all_lists files) fde) r → names_a_symbol r.kind ≡ true → spot_of files b (place_of files fde.section).file r ≡ targets.Section section offset rest →
    s section ≡ true
unfolding record_target
frame_follows files b s has f k fde r section offset rest stays is own among names same =
    let from = pairs_from (section_no files f k) (joined_in files b f) in
    let file = (place_of files fde.section).file in
    let framed = frame_ends_in files b f k in
    let P : Spot → Type 0 = λ t. All (In s) (section_of t) in
    let all = all_right (In s) (targets_in files b f k) framed
    (all_left (In s) (targets_in files b f k ++ framed) (map (λ (p : Pair). p.to) from) (ends_are files b s f k has stays is)) in
    let each = frames_to files b (In s) (frames_at files b (all_lists files) (section_no files f k)) fde all own in
    let one = All-contains (λ q. All (In s) (record_target files b file q)) (frame_relocs (all_lists files) fde) r each among in
    All-head (In s) section [] (subst P same (all_if (In s) (names_a_symbol r.kind) (section_of (spot_of files b file r)) names one))

-- the place of a section's number
place_at : (files : List File) (f k : ℕ) → f < length files → k < section_count (file_at files f) → place_of files (section_no files f k) ≡ record { file = f; index = k }
place_at files f k lt below =
    let n : ℕ = section_no files f k in
    let index : n - first_section files f ≡ k = omega arith in
    place_is files n f (record { file = lt; from = omega arith; below = omega (arith, below, section_more files f lt) })
    ∙ ap (λ i. record { file = f; index = i }) index

bound_follows : (files : List File) (b : Bindings) (s : ℕ → Bool) → AllEnds (edges files b) s → (f k g j : ℕ) (r : Reloc) (n : ℕ) →
    MayStay files b f k → s (section_no files f k) ≡ true → Contains (relocs_at (file_at files f) k) r → names_a_symbol r.kind ≡ true →
    spot_of files b f r ≡ targets.Linker n → is_bound_no n ≡ true → MayStay files b g j → (input_of files b g j).name ≡ (input_at files b (bound_section n)).name →
    s (section_no files g j) ≡ true
unfolding bound_sections all_named is_named
bound_follows files b s has f k g j r n stays is among names same bounds other called =
    let text = (input_at files b (bound_section n)).name in
    let x = section_no files g j in
    let all = range_with_len 0 (section_total files) in
    let P : Spot → Type 0 = λ t. All (In s) (section_in files b t) in
    let own : All (In s) (filter (is_named files b text) all) =
    all_if (In s) (is_bound_no n) (filter (is_named files b text) all) bounds (subst P same (targets_are files b s f k r has stays is among names)) in
    let place = place_at files g j other.file other.index in
    let below : x < section_total files = omega (arith, other.index, section_within files g other.file) in
    let may : may_stay_at files b x ≡ true = ap (λ (p : SectionPlace). may_stay files b p.file p.index) place ∙ other.stays in
    let name : (input_at files b x).name ≡ text = ap (λ (p : SectionPlace). (input_of files b p.file p.index).name) place ∙ called in
    one_passed (In s) (is_named files b text) all x own (in_range (section_total files) x below)
    (and_from (may_stay_at files b x) (bytes_eq (input_at files b x).name text) may ((bytes_eq-Decides (input_at files b x).name text).1 name))

test_nonzero : (d : ℕ) → d ≢ 0 → not (d == 0) ≡ true
test_nonzero d other = ap (λ b. not b) (ne_eqb d 0 other)

link_follows : (files : List File) (b : Bindings) (s : ℕ → Bool) → AllEnds (edges files b) s → (f k j : ℕ) → MayStay files b f k → IsInTable files f k →
    s (section_no files f k) ≡ true → MayStay files b f j → bit_and (section_at (file_at files f) j).flags SHF_LINK_ORDER ≢ 0 →
    (section_at (file_at files f) j).link ≡ k → k ≢ 0 → s (section_no files f j) ≡ true
unfolding link_at is_linked
link_follows files b s has f k j stays among is also flagged link other =
    let section = section_at (file_at files f) j in
    let P : Pair → Type 0 = Leads s (section_no files f k) in
    let all = all_left P (links_in files b f) (flat_map (ring_in files b f) (file_at files f).object.groups) (joined_are files b s f k has stays is) in
    let own : j < length (file_at files f).head.sections = elim (cases_lt j (length (file_at files f).head.sections)) [
      | inl lt ↦ lt
      | inr past ↦
          let none = get_or_past (file_at files f).head.sections j no_section past in
          absurd (flagged (ap (λ (x : Section). bit_and x.flags SHF_LINK_ORDER) none))
    ] in
    let in_table : nat_lt section.link (length (file_at files f).head.sections) ≡ true = lt-ltb section.link (length (file_at files f).head.sections) (omega (arith, among, link)) in
    let tests = and_from _ _ (and_from _ _ (test_nonzero (bit_and section.flags SHF_LINK_ORDER) flagged)
    (and_from _ _ (test_nonzero section.link (λ none. other (sym link ∙ none))) in_table)) also.stays in
    head_if P (is_linked (file_at files f) section && may_stay files b f j) (pair (section_no files f section.link) (section_no files f j)) tests
    (part_of P (link_at files b f) (range_with_len 0 (length (file_at files f).head.sections)) j all (in_range (length (file_at files f).head.sections) j own))
    (ap (section_no files f) link)

group_follows : (files : List File) (b : Bindings) (s : ℕ → Bool) → AllEnds (edges files b) s → (f i j : ℕ) (group : GroupView) →
    Contains (file_at files f).object.groups group → Contains group.members i → Contains group.members j →
    MayStay files b f i → IsInTable files f i → MayStay files b f j → IsInTable files f j → s (section_no files f i) ≡ true → s (section_no files f j) ≡ true
unfolding member_at Member Both Keeps
group_follows files b s has f i j group of i_in j_in i_stays i_own j_stays j_own is =
    let members = flat_map (member_at files b f) group.members in
    let Q : ℕ → Type 0 = Member files b f group.members in
    let live = live_from (file_at files f) i i_stays.index in
    let wide = counted (file_at files f) live in
    let out : (n : ℕ) → Q n → s n ≡ true → All (Leads s n) (ring members) = λ n own here.
    let stays : MayStay files b f own.0 = record { file = i_stays.file; index = omega (arith, own.2, wide); stays = own.3 } in
    let L : ℕ → Type 0 = λ x. All (Leads s x) (joined_in files b f) in
    let all = subst L (sym own.4) (joined_are files b s f own.0 has stays (ap s (sym own.4) ∙ here)) in
    part_of (Leads s n) (ring_in files b f) (file_at files f).object.groups group
    (all_right (Leads s n) (links_in files b f) (flat_map (ring_in files b f) (file_at files f).object.groups) all) of in
    let both : All (Both Q) (ring members) = ring_both Q members (members_are files b f group.members) in
    let keeps : All (Keeps s) (ring members) = λ n d lt here. out (get_or (ring members) n d).from (both n d lt).0 here n d lt refl in
    let R : ℕ → Type 0 = λ n. s n ≡ true → All (In s) members in
    let test : (m : ℕ) → IsInTable files f m → may_stay files b f m ≡ true → (is_own files b f m && may_stay files b f m) ≡ true = λ m own stays.
    and_from _ _ (lt-ltb m (length (file_at files f).head.sections) own) stays in
    let all : All (In s) members = head_if R (is_own files b f i && may_stay files b f i) (section_no files f i) (test i i_own i_stays.stays)
    (part_of R (member_at files b f) group.members i (ring_all s members keeps) i_in) is in
    head_if (In s) (is_own files b f j && may_stay files b f j) (section_no files f j) (test j j_own j_stays.stays)
    (part_of (In s) (member_at files b f) group.members j all j_in)

closed_by_rules : (files : List File) (b : Bindings) (s : ℕ → Bool) → AllEnds (edges files b) s → IsClosedByRules files b s
closed_by_rules files b s has = record {
  targets = target_follows files b s has;
  bounds = bound_follows files b s has;
  frames = frame_follows files b s has;
  links = link_follows files b s has;
  groups = group_follows files b s has;
}

pub closed_is : (files : List File) (b : Bindings) (s : ℕ → Bool) → IsClosedByRules files b s ↔ HasEnds (edges files b) s
closed_is files b s = (
  λ rules section end is has. All-contains (In s) (slice_index_or (edges files b) section []) end (has_ends files b s rules section is) has,
  λ ends. closed_by_rules files b s (λ section is.
      let list = slice_index_or (edges files b) section [] in
      All-weaker (Contains list) (In s) (λ end has. ends section end is has) list (All-contains_itself list)),
)
