-- What walks lead to are sections, and a set of sections is closed by the rules if it has, with each section, where a walk leads from it.
use Rattle.std.proofs.Common.{◌≡◌, ℕ, ◌-◌, ◌<◌, ◌≤◌, ◌==◌, Bool, true, List, [], ◌∷◌, ◌++◌, length, map, flat_map, All, Contains, sym, ap, ◌∙◌, subst, arith, inl, inr}
use Rattle.std.specs.Prelude.{◌↔◌, slice_index_or}
use Rattle.std.specs.List.{range_with_len}
use Rattle.std.proofs.lemmas.Bool.{cases_lt}
use Rattle.std.proofs.lemmas.List.{get_or_past}
use Rattle.std.proofs.lemmas.List.Elements.{All-nil, All-cons, All-head, All-tail, All-append, All-contains, All-contains_itself, All-filter, All-map, All-weaker}
use Rattle.link_sections.specs.InputSections.{may_stay}
use Rattle.lk_tables.specs.BoundNames.{IsBindingOf}
use Rattle.lk_tables.specs.Binding.{Bindings}
use Rattle.lk_tables.specs.Files.{AreFew, File, by_section, file_at, first_section, section_count, section_no, section_total}
use Rattle.lk_tables.specs.Objects.{GroupView}
use Rattle.lk_tables.proofs.BoundHas.{each_flat}
use Rattle.lk_tables.proofs.ByNumber.{length_by_section, read_by_section, section_rows, section_rows_all}
use Rattle.lk_tables.proofs.FirstNumbers.{section_more}
use Rattle.lk_tables.proofs.LiveFiles.{counted, live_from}
use Rattle.lk_tables.proofs.Owners.{IsOwner, owner_below}
use Rattle.sec_graph.specs.declared.pairs.Pair.{Pair}
use Rattle.sec_graph.specs.Graph.{edges, ends_in, member_at, pair, pairs_from}
use Rattle.sec_graph.specs.Kept.{HasEnds, IsClosedByRules, IsInTable, MayStay}
use Rattle.sec_graph.specs.WalkEdges.{mates_in, square, square_in, walk_edges, walk_ends}
use Rattle.sec_graph.proofs.Closing.{Both, In, Leads, Member, closed_is, leads_from, lists_at, lists_past, members_are, same_index}
use Rattle.sec_graph.proofs.ListParts.{all_left, each_of}
use Rattle.sec_graph.proofs.Within.{EndsBelow, ends_below, map_each, members_below}

-- what holds of the sections of two lists holds of both ends of each pair
all_both : (P : ℕ → Type 0) (m : ℕ) (to : List ℕ) → P m → All P to → All (Both P) (map (pair m) to)
unfolding Both
all_both P m [] own all = All-nil (Both P)
all_both P m (n ∷ ns) own all = All-cons (Both P) (pair m n) (map (pair m) ns) (own, All-head P n ns all) (all_both P m ns own (All-tail P n ns all))

square_both : (P : ℕ → Type 0) (from to : List ℕ) → All P from → All P to → All (Both P) (square from to)
square_both P [] to some all = All-nil (Both P)
square_both P (m ∷ ms) to some all =
    All-append (Both P) (map (pair m) to) (square ms to) (all_both P m to (All-head P m ms some) all) (square_both P ms to (All-tail P m ms some) all)

-- the rows of the sections of a file, and of no section
walks_at : (files : List File) (b : Bindings) (f k : ℕ) → f < length files → k < section_count (file_at files f) →
    slice_index_or (walk_edges files b) (section_no files f k) [] ≡ walk_ends files b f k
unfolding walk_edges
walks_at files b f k lt less = read_by_section files (walk_ends files b) f k [] lt less

walks_past : (files : List File) (b : Bindings) (n : ℕ) → section_total files ≤ n → slice_index_or (walk_edges files b) n [] ≡ []
unfolding walk_edges
walks_past files b n le = get_or_past (by_section files (walk_ends files b)) n [] (omega (arith, le, length_by_section files (walk_ends files b)))

-- members of a group that a closed set has bring the others
mates_closed : (files : List File) (b : Bindings) (s : ℕ → Bool) (f k : ℕ) → IsClosedByRules files b s → f < length files → k < section_count (file_at files f) →
    s (section_no files f k) ≡ true → All (Leads s (section_no files f k)) (mates_in files b f)
unfolding Both Member
mates_closed files b s f k rules lt less is =
    let P : Pair → Type 0 = Leads s (section_no files f k) in
    let live = live_from (file_at files f) k less in
    let wide = counted (file_at files f) live in
    each_of P (square_in files b f) (file_at files f).object.groups (λ group has.
    let Q : ℕ → Type 0 = Member files b f group.members in
    let members = flat_map (member_at files b f) group.members in
    let are : All Q members = members_are files b f group.members in
    All-weaker (Both Q) P (λ p both same.
    let from : Q p.from = both.0 in
    let to : Q p.to = both.1 in
    let here : from.0 ≡ k = same_index files f from.0 k (sym from.4 ∙ same) in
    let M : ℕ → Type 0 = λ m. Contains group.members m in
    let stays : MayStay files b f k = record { file = lt; index = less; stays = ap (may_stay files b f) (sym here) ∙ from.3 } in
    let there : s (section_no files f to.0) ≡ true =
    rules.groups f k to.0 group has (subst M here from.1) to.1 stays (omega (arith, here, from.2))
    (record { file = lt; index = omega (arith, to.2, wide); stays = to.3 }) to.2 is in
    ap s to.4 ∙ there)
    (square members members) (square_both Q members members are are))

-- where a walk leads from a section of a closed set
walks_closed : (files : List File) (b : Bindings) (s : ℕ → Bool) (f k : ℕ) → IsClosedByRules files b s → f < length files → k < section_count (file_at files f) →
    s (section_no files f k) ≡ true → All (In s) (walk_ends files b f k)
unfolding walk_ends
walks_closed files b s f k rules lt less is =
    let n = section_no files f k in
    let list = slice_index_or (edges files b) n [] in
    let P : List ℕ → Type 0 = λ ends. All (In s) ends in
    let own : All (In s) list = All-weaker (Contains list) (In s) (λ end has. (closed_is files b s).0 rules n end is has) list (All-contains_itself list) in
    let mates = pairs_from n (mates_in files b f) in
    All-append (In s) (ends_in files b f k) (map (λ (p : Pair). p.to) mates) (subst P (lists_at files b f k lt less) own)
    (All-map (In s) (λ (p : Pair). p.to) mates (leads_from s n (mates_in files b f) (mates_closed files b s f k rules lt less is)))

-- a section's number, as file and index
record IsSpot (files : List File) (n : ℕ) : Type 0 where
  file : ℕ
  index : ℕ
  inside : file < length files
  below : index < section_count (file_at files file)
  is : section_no files file index ≡ n

spot_of : (files : List File) (n : ℕ) → n < section_total files → IsSpot files n
spot_of files n lt =
    let own = owner_below files n (length files) (omega arith) lt in
    let f : ℕ = own.0 in
    let owner : IsOwner files n f = own.1 in
    let from = owner.from in
    record {
      file = f;
      index = n - first_section files f;
      inside = owner.file;
      below = omega (arith, owner.below, section_more files f owner.file);
      is = omega arith;
    }

walks_have : (files : List File) (b : Bindings) (s : ℕ → Bool) → IsClosedByRules files b s → (n : ℕ) → s n ≡ true → All (In s) (slice_index_or (walk_edges files b) n [])
walks_have files b s rules n is =
    let P : List ℕ → Type 0 = λ ends. All (In s) ends in
    let Q : ℕ → Type 0 = λ m. All (In s) (slice_index_or (walk_edges files b) m []) in
    elim (cases_lt n (section_total files)) [
      | inl below ↦
          let spot = spot_of files n below in
          let row = walks_at files b spot.file spot.index spot.inside spot.below in
          subst Q spot.is (subst P (sym row) (walks_closed files b s spot.file spot.index rules spot.inside spot.below (ap s spot.is ∙ is)))
      | inr past ↦ subst P (sym (walks_past files b n past)) (All-nil (In s))
    ]

-- and a set that has where walks lead has where the edges do
edges_have : (files : List File) (b : Bindings) (s : ℕ → Bool) → HasEnds (walk_edges files b) s → (n : ℕ) → s n ≡ true → All (In s) (slice_index_or (edges files b) n [])
unfolding walk_ends
edges_have files b s has n is =
    let P : List ℕ → Type 0 = λ ends. All (In s) ends in
    let Q : ℕ → Type 0 = λ m. All (In s) (slice_index_or (edges files b) m []) in
    elim (cases_lt n (section_total files)) [
      | inl below ↦
          let spot = spot_of files n below in
          let f = spot.file in
          let k = spot.index in
          let m = section_no files f k in
          let list = slice_index_or (walk_edges files b) m [] in
          let all : All (In s) list = All-weaker (Contains list) (In s) (λ end among. has m end (ap s spot.is ∙ is) among) list (All-contains_itself list) in
          let row = walks_at files b f k spot.inside spot.below in
          let left = all_left (In s) (ends_in files b f k) (map (λ (p : Pair). p.to) (pairs_from m (mates_in files b f))) (subst P row all) in
          subst Q spot.is (subst P (sym (lists_at files b f k spot.inside spot.below)) left)
      | inr past ↦ subst P (sym (lists_past files b n past)) (All-nil (In s))
    ]

pub walks_law : (files : List File) (b : Bindings) (s : ℕ → Bool) → IsClosedByRules files b s ↔ HasEnds (walk_edges files b) s
walks_law files b s = (
  λ rules section end is among. All-contains (In s) (slice_index_or (walk_edges files b) section []) end (walks_have files b s rules section is) among,
  λ has. (closed_is files b s).1 (λ section end is among.
      All-contains (In s) (slice_index_or (edges files b) section []) end (edges_have files b s has section is) among),
)

-- walks lead to sections
mates_below : (files : List File) (b : Bindings) (f : ℕ) (gs : List GroupView) → f < length files → (file_at files f).live ≡ true →
    All (EndsBelow (section_total files)) (flat_map (square_in files b f) gs)
unfolding Both
mates_below files b f [] lt live = All-nil (EndsBelow (section_total files))
mates_below files b f (g ∷ gs) lt live =
    let P : ℕ → Type 0 = λ n. n < section_total files in
    let members = flat_map (member_at files b f) g.members in
    let low = members_below files b f g.members lt live in
    All-append (EndsBelow (section_total files)) (square_in files b f g) (flat_map (square_in files b f) gs)
    (All-weaker (Both P) (EndsBelow (section_total files)) (λ p both. both.1) (square members members) (square_both P members members low low))
    (mates_below files b f gs lt live)

walk_below : (files : List File) (b : Bindings) (f k : ℕ) → IsBindingOf files b → AreFew files → f < length files → k < section_count (file_at files f) →
    All (λ n. n < section_total files) (walk_ends files b f k)
unfolding walk_ends
walk_below files b f k is few lt below =
    let P : ℕ → Type 0 = λ n. n < section_total files in
    let live = live_from (file_at files f) k below in
    let mates = pairs_from (section_no files f k) (mates_in files b f) in
    All-append P (ends_in files b f k) (map (λ (p : Pair). p.to) mates) (ends_below files b f k is few lt below)
    (All-map P (λ (p : Pair). p.to) mates (All-filter (λ (p : Pair). p.from == section_no files f k) (EndsBelow (section_total files)) (mates_in files b f)
    (mates_below files b f (file_at files f).object.groups lt live)))

walks_below : (files : List File) (b : Bindings) → IsBindingOf files b → AreFew files → All (All (λ n. n < section_total files)) (walk_edges files b)
unfolding walk_edges by_section
walks_below files b is few =
    let P : List ℕ → Type 0 = λ ns. All (λ n. n < section_total files) ns in
    each_flat P (λ f. map (walk_ends files b f) (range_with_len 0 (section_count (file_at files f)))) 0 (length files) (λ f lt.
    map_each P (walk_ends files b f) 0 (section_count (file_at files f)) (λ k below.
    walk_below files b f k is few (omega (arith, lt)) (omega (arith, below))))

-- the rows of all files
pub walk_rows : (files : List File) (b : Bindings) (rows : List (List ℕ)) (n : ℕ) → rows ≡ section_rows files (walk_ends files b) n → n ≡ length files → rows ≡ walk_edges files b
unfolding walk_edges
walk_rows files b rows n held all = held ∙ section_rows_all files (walk_ends files b) n all

pub walk_count : (files : List File) (b : Bindings) (rows : List (List ℕ)) → rows ≡ walk_edges files b → length rows ≡ section_total files
unfolding walk_edges
walk_count files b rows is = ap length is ∙ length_by_section files (walk_ends files b)

pub walks_within : (files : List File) (b : Bindings) (rows : List (List ℕ)) → IsBindingOf files b → AreFew files → rows ≡ walk_edges files b →
    All (All (λ end. end < length rows)) rows
walks_within files b rows bound few is =
    let P : ℕ → List (List ℕ) → Type 0 = λ n l. All (All (λ end. end < n)) l in
    subst (λ n. P n rows) (sym (walk_count files b rows is)) (subst (P (section_total files)) (sym is) (walks_below files b bound few))

-- one row, as code makes it
pub walk_row : (files : List File) (b : Bindings) (f k n : ℕ) (ends : List ℕ) (mates sorted : List Pair) → f < length files → k < section_count (file_at files f) →
    n ≡ section_no files f k → ends ≡ slice_index_or (edges files b) n [] → mates ≡ pairs_from n sorted → pairs_from (section_no files f k) sorted ≡ pairs_from (section_no files f k) (mates_in files b f)
    → ends ++ map (λ (p : Pair). p.to) mates ≡ walk_ends files b f k
unfolding walk_ends
walk_row files b f k n ends mates sorted lt less number ends_are mates_are same =
    let give : List ℕ → List Pair → List ℕ = λ l ps. l ++ map (λ (p : Pair). p.to) ps in
    ap (λ l. give l mates) (ends_are ∙ ap (λ m. slice_index_or (edges files b) m []) number ∙ lists_at files b f k lt less)
    ∙ ap (give (ends_in files b f k)) (mates_are ∙ ap (λ m. pairs_from m sorted) number ∙ same)
