-- What is said of why a section is kept, or two are not folded, piece by piece.
use Rattle.std.proofs.Common.{◌≡◌, ℕ, ◌+◌, ◌<◌, ◌≤◌, Bool, true, Option, Some, None, List, [], ◌∷◌, ◌++◌, length, map, flat_map, get_or, drop, codes, decimal, All, refl, sym, ap, ap₂, ◌∙◌, append_assoc, arith}
use Rattle.std.specs.Option.{option_map}
use Rattle.std.specs.Prelude.{slice_get, slice_index_or, IfSome}
use Rattle.std.proofs.lemmas.Bool.{cond-true}
use Rattle.std.proofs.lemmas.List.{drop_all, drop_more, get_or-map, length-map}
use Rattle.std.proofs.lemmas.List.Elements.{All-head, All-map}
use Rattle.lk_base.specs.Lines.{escaped}
use Rattle.lk_tables.specs.declared.section_places.SectionPlace.{SectionPlace}
use Rattle.lk_tables.specs.Binding.{Bindings}
use Rattle.lk_tables.specs.Files.{File, section_total}
use Rattle.lk_tables.specs.Sites.{place_of as site_of}
use Rattle.lk_tables.proofs.BoundHas.{each_flat, one_if}
use Rattle.lk_tables.proofs.ByNumber.{length_by_section}
use Rattle.link_command.specs.Command.{CommandView}
use Rattle.link_sections.specs.declared.pools.Pools.{Pools}
use Rattle.link_sections.specs.FoldItems.{FoldItem, section_of as number_of, sections_of}
use Rattle.link_sections.specs.InputSections.{input_at}
use Rattle.link_sections.specs.Merging.{pools_of}
use Rattle.link_sections.specs.PoolViews.{Merged, PoolsView, merged_views, pools_view}
use Rattle.icf_part.specs.Folding.{item_at, no_item}
use Rattle.sec_graph.specs.Foldable.{is_foldable, item_if, item_in, item_of, items}
use Rattle.sec_graph.specs.WalkEdges.{walk_edges, walk_ends}
use Rattle.why_chain.specs.declared.chains.ApartChain.{ApartChain}
use Rattle.why_chain.specs.declared.chains.LiveChain.{LiveChain}
use Rattle.why_chain.specs.declared.pairs.Pair.{Pair}
use Rattle.why_chain.specs.Aparts.{chain_view, next_pair}
use Rattle.why_chain.specs.Walks.{sections_in}
use Rattle.link_driver.specs.Certificates.{apart_text, asks_why, end_line, lines_of_both, lines_of_chain, lines_of_sections, lines_of_target, lines_of_walk, live_text, met_line, name_line, names_line, pair_line, section_line, section_of, spot_text, text_of_both, via_line, via_lines, walk_lines, walk_to, why_text}

-- parts of a line, as they are added
joined : (o a b c d : List ℕ) → o ++ a ++ b ++ c ++ d ≡ o ++ (a ++ b ++ c ++ d)
joined o a b c d =
    ap (λ l. l ++ c ++ d) (append_assoc o a b) ∙ ap (λ l. l ++ d) (append_assoc o (a ++ b) c) ∙ append_assoc o (a ++ b ++ c) d

-- where a section stands
pub spot_is : (names : List (List ℕ)) (files : List File) (n : ℕ) (place : SectionPlace) (name old t u v : List ℕ) → place ≡ site_of files n →
    name ≡ slice_index_or names place.file [] → t ≡ old ++ 32 ∷ [] → u ≡ t ++ escaped name → v ≡ u ++ (codes " " ++ decimal place.index) →
    v ≡ old ++ spot_text names files n
unfolding spot_text
spot_is names files n place name old t u v at named one two three =
    let file : List ℕ = escaped (slice_index_or names place.file []) in
    let index : List ℕ = codes " " ++ decimal place.index in
    three ∙ ap (λ l. l ++ index) (two ∙ ap₂ (λ l m. l ++ escaped m) one named)
    ∙ sym (append_assoc (old ++ codes " " ++ file) (codes " ") (decimal place.index))
    ∙ joined old (codes " ") file (codes " ") (decimal place.index)
    ∙ ap (λ (p : SectionPlace). old ++ (codes " " ++ escaped (slice_index_or names p.file []) ++ codes " " ++ decimal p.index)) at

-- a section as a line
pub section_is : (names : List (List ℕ)) (files : List File) (b : Bindings) (n : ℕ) (word name old t u v w z : List ℕ) → name ≡ (input_at files b n).name →
    t ≡ old ++ word → u ≡ t ++ spot_text names files n → v ≡ u ++ 32 ∷ [] → w ≡ v ++ escaped name → z ≡ w ++ 10 ∷ [] →
    z ≡ old ++ section_line names files b word n
unfolding section_line
section_is names files b n word name old t u v w z named one two three four five =
    let spot : List ℕ = spot_text names files n in
    let own : List ℕ = escaped (input_at files b n).name in
    five ∙ ap (λ l. l ++ codes "\n") (four ∙ ap₂ (λ l m. l ++ escaped m) (three ∙ ap (λ l. l ++ codes " ") (two ∙ ap (λ l. l ++ spot) one)) named
    ∙ joined old word spot (codes " ") own) ∙ append_assoc old (word ++ spot ++ codes " " ++ own) (codes "\n")

-- the two of a pair as a line
pub pair_is : (names : List (List ℕ)) (files : List File) (foldable : List FoldItem) (p : Pair) (word : List ℕ) (m n : ℕ) (old t u v w : List ℕ) →
    m ≡ (item_at foldable p.one).section → n ≡ (item_at foldable p.two).section → t ≡ old ++ word → u ≡ t ++ spot_text names files m →
    v ≡ u ++ spot_text names files n → w ≡ v ++ 10 ∷ [] → w ≡ old ++ pair_line names files foldable word p
unfolding pair_line
pair_is names files foldable p word m n old t u v w first second one two three four =
    let spot : ℕ → List ℕ = spot_text names files in
    four ∙ ap (λ l. l ++ codes "\n") (three ∙ ap₂ (λ l k. l ++ spot k) (two ∙ ap₂ (λ l k. l ++ spot k) one first) second)
    ∙ joined old word (spot (item_at foldable p.one).section) (spot (item_at foldable p.two).section) (codes "\n")

-- an item's section is one of all
pub item_below : (foldable : List FoldItem) (n i : ℕ) → All (λ s. s < n) (sections_of foldable) → i < length foldable → (item_at foldable i).section < n
unfolding sections_of
item_below foldable n i all less =
    let at : get_or (map number_of foldable) i 0 ≡ (item_at foldable i).section = get_or-map number_of foldable i no_item 0 less in
    let low : get_or (map number_of foldable) i 0 < n = all i 0 (omega (arith, less, length-map foldable number_of)) in
    omega (arith, at, low)

-- where walks lead, for each section
pub walks_count : (files : List File) (b : Bindings) (ends : List (List ℕ)) → ends ≡ walk_edges files b → length ends ≡ section_total files
unfolding walk_edges
walks_count files b ends are = ap length are ∙ length_by_section files (walk_ends files b)

-- the first of some sections is a section as they are
pub first_within : (n : ℕ) (sections : List ℕ) → All (λ s. s < n) sections → IfSome (slice_get sections 0) (λ s. s < n)
first_within n [] all = tt
first_within n (s ∷ sections) all = All-head (λ k. k < n) s sections all

-- what is said of a walk, and of the section of a name
module _ (names : List (List ℕ)) (files : List File) (b : Bindings) (name : List ℕ) where
  pub walk_is : (c : LiveChain) (o : Option LiveChain) (walk t u : List ℕ) → o ≡ Some c → walk ≡ c.sections.items → t ≡ name_line (codes "live ") name →
      u ≡ t ++ walk_lines names files b walk → u ≡ lines_of_walk names files b name (option_map sections_in o)
  walk_is c o walk t u is same first all =
      all ∙ ap₂ (λ l w. l ++ walk_lines names files b w) first same ∙ ap (λ w. lines_of_walk names files b name (option_map sections_in w)) (sym is)

  pub no_walk : (o : Option LiveChain) (t : List ℕ) → o ≡ None → t ≡ name_line (codes "dead ") name → t ≡ lines_of_walk names files b name (option_map sections_in o)
  no_walk o t is first = first ∙ ap (λ w. lines_of_walk names files b name (option_map sections_in w)) (sym is)

  pub target_is : (undefined : List (List ℕ)) (section : ℕ) (walk : Option (List ℕ)) → walk ≡ walk_to files b undefined section → Some section ≡ section_of files b name →
      lines_of_walk names files b name walk ≡ live_text names files b undefined (Some name)
  target_is undefined section walk is at = ap (lines_of_walk names files b name) is ∙ ap (lines_of_target names files b undefined name) at

  pub no_target : (undefined : List (List ℕ)) → None ≡ section_of files b name → name_line (codes "unknown ") name ≡ live_text names files b undefined (Some name)
  no_target undefined none = ap (lines_of_target names files b undefined name) none

-- what is said of a chain, and of two names
pub chain_is : (names : List (List ℕ)) (files : List File) (foldable : List FoldItem) (one two : List ℕ) (p : Pair) (c : ApartChain) (o : Option ApartChain)
    (vias t u v w : List ℕ) → o ≡ Some c → vias ≡ c.vias.items → t ≡ names_line (codes "apart ") one two → u ≡ t ++ pair_line names files foldable (codes "pair") p →
    v ≡ u ++ via_lines names files foldable vias p → w ≡ v ++ end_line c.last → w ≡ lines_of_chain names files foldable one two p (option_map chain_view o)
chain_is names files foldable one two p c o vias t u v w is same first pairs rest last =
    last ∙ ap (λ l. l ++ end_line c.last) (rest ∙ ap₂ (λ l ks. l ++ via_lines names files foldable ks p)
    (pairs ∙ ap (λ l. l ++ pair_line names files foldable (codes "pair") p) first) same)
    ∙ ap (λ x. lines_of_chain names files foldable one two p (option_map chain_view x)) (sym is)

module _ (names : List (List ℕ)) (files : List File) (b : Bindings) (kept barred : List Bool) (one two : List ℕ) where
  abbrev foldable_in : PoolsView → List FoldItem
  foldable_in v = items files b v.merged kept barred

  abbrev said : Option ℕ → Option ℕ → List ℕ
  said s t = lines_of_sections names files (foldable_in (pools_of files kept)) one two s t

  pub items_are : (pools : Pools) (lent : List FoldItem) → pools_view files pools ≡ pools_of files kept → lent ≡ items files b (merged_views pools) kept barred →
      lent ≡ items files b (pools_of files kept).merged kept barred
  unfolding pools_view
  items_are pools lent are is = is ∙ ap foldable_in are

  pub both_are : (lent : List FoldItem) (s t : ℕ) → lent ≡ items files b (pools_of files kept).merged kept barred → Some s ≡ section_of files b one →
      Some t ≡ section_of files b two → lines_of_both names files lent one two s t ≡ text_of_both names files b kept barred one two
  both_are lent s t is first second = ap (λ l. lines_of_both names files l one two s t) is ∙ ap₂ said first second

  pub first_unknown : None ≡ section_of files b one → name_line (codes "unknown ") one ≡ text_of_both names files b kept barred one two
  first_unknown none = ap (λ s. said s (section_of files b two)) none

  pub second_unknown : (s : ℕ) → Some s ≡ section_of files b one → None ≡ section_of files b two →
      name_line (codes "unknown ") two ≡ text_of_both names files b kept barred one two
  second_unknown s first none = ap₂ said first none

  pub both_asked : (asked : List (List ℕ)) → length asked ≡ 2 → one ≡ get_or asked 0 [] → two ≡ get_or asked 1 [] →
      text_of_both names files b kept barred one two ≡ apart_text names files b kept barred asked
  both_asked [] many first second = absurd (omega arith)
  both_asked (x ∷ []) many first second = absurd (omega arith)
  both_asked (x ∷ y ∷ []) many first second = ap₂ (text_of_both names files b kept barred) first second
  both_asked (x ∷ y ∷ z ∷ rest) many first second = absurd (omega arith)

pub not_two : (names : List (List ℕ)) (files : List File) (b : Bindings) (kept barred : List Bool) (asked : List (List ℕ)) → (length asked ≡ 2 → ⊥) →
    apart_text names files b kept barred asked ≡ []
not_two names files b kept barred [] other = refl
not_two names files b kept barred (x ∷ []) other = refl
not_two names files b kept barred (x ∷ y ∷ []) other = let no : ⊥ = other refl in absurd no
not_two names files b kept barred (x ∷ y ∷ z ∷ rest) other = refl

-- both texts, where one is asked for
pub why_is : (asked : CommandView) (names : List (List ℕ)) (files : List File) (b : Bindings) (kept barred : List Bool) (live apart all : List ℕ) → asks_why asked ≡ true →
    live ≡ live_text names files b asked.undefined asked.why_live → apart ≡ apart_text names files b kept barred asked.why_apart → all ≡ live ++ apart →
    all ≡ why_text asked names files b kept barred
unfolding why_text
why_is asked names files b kept barred live apart all on one two is =
    is ∙ ap₂ (λ (l m : List ℕ). l ++ m) one two ∙ sym (cond-true (asks_why asked) _ _ on)

-- the sections that may be folded are sections
pub items_within : (files : List File) (b : Bindings) (merged : List (Option Merged)) (kept barred : List Bool) →
    All (λ n. n < section_total files) (sections_of (items files b merged kept barred))
unfolding sections_of items item_in
items_within files b merged kept barred =
    let P : FoldItem → Type 0 = λ i. i.section < section_total files in
    All-map (λ n. n < section_total files) number_of (items files b merged kept barred)
    (each_flat P (item_if files b merged kept barred) 0 (section_total files) (λ n lt.
    one_if P (is_foldable files b kept barred n) (item_of files b merged n) (λ on. omega (arith, lt))))

module _ (names : List (List ℕ)) (files : List File) (b : Bindings) (walk : List ℕ) where
  pub walk_none : length walk ≡ 0 → walk_lines names files b walk ≡ []
  walk_none none = by walk none
    where
      by : (w : List ℕ) → length w ≡ 0 → walk_lines names files b w ≡ []
      by [] e = refl
      by (x ∷ w) e = absurd (omega arith)

  pub walk_first : 0 < length walk → walk_lines names files b walk ≡ section_line names files b (codes "root") (get_or walk 0 0) ++ flat_map (section_line names files b (codes "to")) (drop 1 walk)
  walk_first some = by walk some
    where
      by : (w : List ℕ) → 0 < length w → walk_lines names files b w ≡ section_line names files b (codes "root") (get_or w 0 0) ++ flat_map (section_line names files b (codes "to")) (drop 1 w)
      by [] e = absurd (omega arith)
      by (x ∷ w) e = refl

module _ (names : List (List ℕ)) (files : List File) (foldable : List FoldItem) (vias : List ℕ) (i : ℕ) (p : Pair) where
  -- the rest, one pair on, where there is none, and at the end
  vias_by : i < length vias → via_lines names files foldable (drop i vias) p
      ≡ via_line names files foldable (via_lines names files foldable (drop (i + 1) vias)) (get_or vias i 0) (next_pair foldable p (get_or vias i 0))
  vias_by less = ap (λ ks. via_lines names files foldable ks p) (drop_more vias i 0 less)

  pub vias_on : (q : Pair) → i < length vias → next_pair foldable p (get_or vias i 0) ≡ Some q
      → via_lines names files foldable (drop i vias) p ≡ met_line names files foldable (get_or vias i 0) q ++ via_lines names files foldable (drop (i + 1) vias) q
  vias_on q less is = vias_by less ∙ ap (via_line names files foldable (via_lines names files foldable (drop (i + 1) vias)) (get_or vias i 0)) is

  pub vias_none : i < length vias → next_pair foldable p (get_or vias i 0) ≡ None → via_lines names files foldable (drop i vias) p ≡ []
  vias_none less is = vias_by less ∙ ap (via_line names files foldable (via_lines names files foldable (drop (i + 1) vias)) (get_or vias i 0)) is

  pub vias_end : length vias ≤ i → via_lines names files foldable (drop i vias) p ≡ []
  vias_end past = ap (λ ks. via_lines names files foldable ks p) (drop_all i vias past)
