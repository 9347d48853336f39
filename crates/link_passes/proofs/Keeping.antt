-- The sections that are kept may be.
use Rattle.std.proofs.Common.{◌≡◌, ℕ, ◌<◌, ◌==◌, ◌&&◌, Bool, true, false, Option, Some, None, List, [], ◌∷◌, ◌++◌, length, refl, sym, ap, ◌∙◌, subst, arith, inl, inr}
use Rattle.std.specs.Prelude.{not, flat_map, if◌then◌else◌, Contains, IfSome, ◌↔◌}
use Rattle.std.specs.List.{All, range_with_len}
use Rattle.std.proofs.lemmas.Bool.{and_parts, cases_lt}
use Rattle.std.proofs.lemmas.List.{get_or_past}
use Rattle.std.proofs.lemmas.List.Elements.{All-append, All-contains, All-cons, All-head, All-nil}
use Rattle.lk_base.specs.RelocKinds.{goes_by_got}
use Rattle.lk_base.specs.declared.abi.TheConstants.{STB_WEAK}
use Rattle.lk_tables.specs.declared.bounds.Bound.{Bound}
use Rattle.lk_tables.specs.declared.bounds.Bound.TheVariants.{InSection, Number, Linker, Nobody}
use Rattle.lk_tables.specs.declared.bounds.Spot.TheVariants as targets
use Rattle.lk_tables.specs.declared.heads.Symbol.{Symbol}
use Rattle.lk_tables.specs.declared.objects.Reloc.{Reloc}
use Rattle.lk_tables.specs.declared.records.FrameNo.{FrameNo}
use Rattle.lk_tables.specs.BoundNames.{IsBindingOf, bindings, with_linker}
use Rattle.lk_tables.specs.Binding.{Bindings, offered_bindings}
use Rattle.lk_tables.specs.Files.{AreFew, File, file_at, is_section_symbol, section_count, section_no, section_total, symbol_at}
use Rattle.lk_tables.specs.Frames.{all_lists, frames_at}
use Rattle.lk_tables.specs.Reach.{IsReach}
use Rattle.lk_tables.specs.Sites.{place_of}
use Rattle.lk_tables.specs.Targets.{bound, entry_bound, spot_by, spot_of}
use Rattle.lk_tables.proofs.BoundHas.{each_flat, either, one_if}
use Rattle.lk_tables.proofs.ByNumber.{length_by_section, read_by_section}
use Rattle.lk_tables.proofs.Owners.{place_of_number}
use Rattle.link_sections.specs.InputSections.{all_kept, input_of, may_stay, may_stay_at}
use Rattle.link_sections.specs.Leaders.{is_kept}
use Rattle.link_sections.proofs.BoundStays.{Stays, bound_stays, entry_stays, stays_at}
use Rattle.asked_names.specs.AskedNames.{name_bound, named_sections, section_bound}
use Rattle.asked_names.proofs.NameBounds.{as_an_entry, sections_have}
use Rattle.sec_gc.specs.Roots.{is_root, is_root_input, root_at, roots, roots_in}
use Rattle.sec_graph.specs.Graph.{edges, ends_in, section_in}
use Rattle.sec_graph.specs.Kept as rules
use Rattle.sec_graph.proofs.Closing.{bounds_stay}
use Rattle.sec_graph.proofs.FrameEnds.{fdes_below}
use Rattle.link_passes.specs.declared.collecting.SectionGraph.{SectionGraph}
use Rattle.link_passes.specs.Tables.{IsCollected, IsGraph, MayStay}

-- a link that collects nothing
pub all_stay : (files : List File) (b : Bindings) → MayStay files b (all_kept files b)
all_stay files b = record {
  wide = length_by_section files (may_stay files b);
  each = λ n kept. elim (cases_lt n (section_total files)) [
    | inl lt ↦
        let p = place_of_number files n lt in
        let f = (place_of files n).file in
        let k = (place_of files n).index in
        let read = read_by_section files (may_stay files b) f k false p.file p.index in
        sym read ∙ ap (is_kept (all_kept files b)) p.number ∙ kept
    | inr past ↦
        let none : is_kept (all_kept files b) n ≡ false = get_or_past (all_kept files b) n false (omega (arith, length_by_section files (may_stay files b), past)) in
        let no : ⊥ = cc in
        absurd no
  ];
}

-- the sections of a list may stay
abbrev AllStay : List File → Bindings → List ℕ → Type 0
AllStay files b ns = All (λ n. may_stay_at files b n ≡ true) ns

one_stays : (files : List File) (b : Bindings) (n : ℕ) → may_stay_at files b n ≡ true → AllStay files b (n ∷ [])
one_stays files b n stays = All-cons (λ m. may_stay_at files b m ≡ true) n [] stays (All-nil (λ m. may_stay_at files b m ≡ true))

none_stays : (files : List File) (b : Bindings) → AllStay files b []
none_stays files b = All-nil (λ m. may_stay_at files b m ≡ true)

-- that of a target
target_stays : (files : List File) (b : Bindings) (found : Bound) (file : File) (s : Symbol) (r : Reloc) → Stays files b found → AllStay files b (section_in files b (spot_by found file s r))
target_stays files b (InSection section offset) file s r stays =
    let one = one_stays files b section stays in
    either (λ t. AllStay files b (section_in files b t)) (is_section_symbol s && not (goes_by_got r.kind)) _ _ one one
target_stays files b (Number n) file s r stays = none_stays files b
target_stays files b (Linker n) file s r stays = bounds_stay files b n
target_stays files b Nobody file s r stays =
    let none = none_stays files b in
    either (λ t. AllStay files b (section_in files b t)) (s.binding == STB_WEAK) targets.Zero targets.Unbound none none

pub live_of : (files : List File) (f k : ℕ) → k < section_count (file_at files f) → (file_at files f).live ≡ true
live_of files f k lt = live_if (file_at files f).live k _ lt
  where
    live_if : (live : Bool) (k count : ℕ) → k < (if live then count else 0) → live ≡ true
    live_if true k count lt = refl
    live_if false k count lt = absurd (omega (arith, lt))

-- so what may stay is closed by the rules
closed_stay : (files : List File) (b : Bindings) → IsBindingOf files b → AreFew files → rules.IsClosedByRules files b (may_stay_at files b)
unfolding spot_of
closed_stay files b is few = record {
  targets = λ f k r section offset rest stays in_set has names target.
      let live = live_of files f k stays.index in
      let all = target_stays files b (bound files b f r.symbol) (file_at files f) (symbol_at (file_at files f) r.symbol) r (bound_stays files b f r.symbol is few stays.file live) in
      All-head (λ n. may_stay_at files b n ≡ true) section [] (subst (λ t. AllStay files b (section_in files b t)) target all);
  frames = λ f k fde r section offset rest stays in_set listed has names target.
      let total = section_total files in
      let below = All-contains (λ (no : FrameNo). no.section < total) (frames_at files b (all_lists files) (section_no files f k)) fde (fdes_below files b (section_no files f k)) listed in
      let place = place_of_number files fde.section below in
      let own = (place_of files fde.section).file in
      let live = live_of files own (place_of files fde.section).index place.index in
      let all = target_stays files b (bound files b own r.symbol) (file_at files own) (symbol_at (file_at files own) r.symbol) r (bound_stays files b own r.symbol is few place.file live) in
      All-head (λ n. may_stay_at files b n ≡ true) section [] (subst (λ t. AllStay files b (section_in files b t)) target all);
  links = λ f k j stays in_table in_set other ordered link some. stays_at files b f j other.file other.index other.stays;
  groups = λ f i j group has first second stays in_table other in_other in_set. stays_at files b f j other.file other.index other.stays;
  bounds = λ f k g j r n stays in_set has names target is_bound other named. stays_at files b g j other.file other.index other.stays;
}

-- and each root does
section_stays : (files : List File) (b : Bindings) (found : Bound) → Stays files b found → AllStay files b (section_bound found)
section_stays files b (InSection section offset) stays = one_stays files b section stays
section_stays files b (Number n) stays = none_stays files b
section_stays files b (Linker n) stays = none_stays files b
section_stays files b Nobody stays = none_stays files b

stays_moved : (files : List File) (name : List ℕ) (gone : List Bool) (entry : List ℕ) (found : Bound) → Stays files (bindings files gone name) found →
    Stays files (bindings files gone entry) found
unfolding bindings with_linker offered_bindings may_stay
stays_moved files name gone entry (InSection section offset) stays = stays
stays_moved files name gone entry (Number n) stays = tt
stays_moved files name gone entry (Linker n) stays = tt
stays_moved files name gone entry Nobody stays = tt

named_stay : (files : List File) (b : Bindings) (names : List (List ℕ)) → IsBindingOf files b → AreFew files → AllStay files b (named_sections files b names)
named_stay files b names is few =
    sections_have files b (λ n. may_stay_at files b n ≡ true) names (λ name.
    section_stays files b (name_bound files b name)
    (as_an_entry files b (Stays files) name is (λ c own. entry_stays files c own few) (stays_moved files name)))

roots_stay : (files : List File) (b : Bindings) (undefined : List (List ℕ)) → IsBindingOf files b → AreFew files → AllStay files b (roots files b undefined)
unfolding roots roots_in is_root
roots_stay files b undefined is few =
    let P : ℕ → Type 0 = λ n. may_stay_at files b n ≡ true in
    All-append P (section_bound (entry_bound files b) ++ named_sections files b undefined) (flat_map (roots_in files b) (range_with_len 0 (length files)))
    (All-append P (section_bound (entry_bound files b)) (named_sections files b undefined)
    (section_stays files b (entry_bound files b) (entry_stays files b is few)) (named_stay files b undefined is few))
    (each_flat P (roots_in files b) 0 (length files) (λ f lt.
    each_flat P (root_at files b f) 0 (section_count (file_at files f)) (λ k below.
    one_if P (may_stay files b f k && is_root_input (input_of files b f k)) (section_no files f k)
    (λ root. let both = and_parts (may_stay files b f k) (is_root_input (input_of files b f k)) root in
    stays_at files b f k (omega (arith, lt)) (omega (arith, below)) both.0))))

-- a link that collects keeps the least set
pub is_collected : (undefined : List (List ℕ)) (files : List File) (b : Bindings) (ends : List (List ℕ)) (found : List ℕ) (seen : List Bool) →
    found ≡ roots files b undefined → ((s : ℕ → Bool) → rules.IsClosedByRules files b s ↔ rules.HasEnds ends s) → IsReach found ends seen →
    IsCollected undefined files b seen
is_collected undefined files b ends found seen are law reach =
    let P : List ℕ → Type 0 = λ l. IsReach l ends seen in
    record { ends = ends; rules = law; reach = subst P are reach }

-- of which each may stay
pub collected_stay : (undefined : List (List ℕ)) (files : List File) (b : Bindings) (ends : List (List ℕ)) (found : List ℕ) (seen : List Bool) →
    IsBindingOf files b → AreFew files → length ends ≡ section_total files → found ≡ roots files b undefined → ((s : ℕ → Bool) → rules.IsClosedByRules files b s ↔ rules.HasEnds ends s) →
    IsReach found ends seen → MayStay files b seen
collected_stay undefined files b ends found seen is few count are law reach = record {
  wide = reach.wide ∙ count;
  each = λ n kept. reach.least (may_stay_at files b) (record {
    rooted = λ f has. All-contains (λ m. may_stay_at files b m ≡ true) (roots files b undefined) f (roots_stay files b undefined is few) (let P : List ℕ → Type 0 = λ l. Contains l f in subst P are has);
    followed = (law (may_stay_at files b)).0 (closed_stay files b is few);
  }) n kept;
}

-- there are ends for each section number
pub ends_count : (files : List File) (b : Bindings) (ends : List (List ℕ)) → ends ≡ edges files b → length ends ≡ section_total files
unfolding edges
ends_count files b ends are = ap length are ∙ length_by_section files (ends_in files b)

-- a graph, if it is wanted
pub graph_held : (files : List File) (b : Bindings) (undefined : List (List ℕ)) (wanted : Bool) (graph : SectionGraph) (given : Option SectionGraph) →
    given ≡ (if wanted then Some graph else None) → IsGraph files b undefined graph → IfSome given (IsGraph files b undefined)
graph_held files b undefined true graph given is held =
    let P : Option SectionGraph → Type 0 = λ o. IfSome o (IsGraph files b undefined) in
    subst P (sym is) held
graph_held files b undefined false graph given is held =
    let P : Option SectionGraph → Type 0 = λ o. IfSome o (IsGraph files b undefined) in
    subst P (sym is) tt
