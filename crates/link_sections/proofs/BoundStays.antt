-- The section in which a symbol stands, or the entry, may be kept.
use Rattle.std.proofs.Common.{◌≡◌, ℕ, ◌+◌, ◌-◌, ◌<◌, ◌≤◌, ◌==◌, ◌&&◌, Bool, true, false, List, [], ◌∷◌, length, flat_map, not, refl, sym, ap, ◌∙◌, subst, arith, Some}
use Rattle.std.specs.Prelude.{Option, None, find, is_some, if◌then◌else◌}
use Rattle.std.specs.List.{All, range_with_len}
use Rattle.std.proofs.lemmas.Bool.{and_parts, cond-false, cond-true, eq-eqb, le-ltb, lt-ltb}
use Rattle.std.proofs.lemmas.List.Elements.{All-head, All-tail}
use Rattle.std.proofs.lemmas.List.FromFn.{get_or-map-range_with_len}
use Rattle.lk_tables.specs.declared.bounds.Bound.{Bound}
use Rattle.lk_tables.specs.declared.bounds.Bound.TheVariants.{InSection, Number, Linker, Nobody}
use Rattle.lk_tables.specs.declared.commons.BoundCommon.{BoundCommon}
use Rattle.lk_tables.specs.declared.heads.Place.{Place}
use Rattle.lk_tables.specs.declared.heads.Place.TheVariants.{Undef, Absolute, Common, Within}
use Rattle.lk_tables.specs.declared.heads.Symbol.{Symbol}
use Rattle.lk_tables.specs.BoundNames.{IsBindingOf, with_linker}
use Rattle.lk_tables.specs.Binding.{offered_bindings}
use Rattle.lk_tables.specs.Binding.{Bindings, bound_common_at, bound_commons_in, greatest_align, greatest_size, demands, rank_bound}
use Rattle.lk_tables.specs.BoundNames.{bindings}
use Rattle.lk_tables.specs.Symbols.{is_common}
use Rattle.lk_tables.specs.Files.{AreFew, File, common_no, commons_before, file_at, is_frame_at, first_section, section_count, section_no, symbol_at, symbol_name, writes}
use Rattle.lk_tables.specs.Ranks.{rank_of}
use Rattle.lk_tables.specs.FixedSymbols.{frame_start_no}
use Rattle.lk_tables.specs.Targets.{bound, commons_at, defined_by, definition, entry_bound, is_gone, offset_in, room_of, unwritten}
use Rattle.lk_tables.proofs.BoundHas.{OfDefinitions, bound_has, each_flat, each_if, either, entry_has, one_if}
use Rattle.lk_tables.proofs.BoundWithin.{common_below}
use Rattle.lk_tables.proofs.FirstNumbers.{section_more}
use Rattle.lk_tables.proofs.LiveFiles.{counted}
use Rattle.lk_tables.proofs.Owners.{place_is, written_within}
use Rattle.link_sections.specs.InputSections.{common_in, common_of, is_own, may_stay, may_stay_at}

-- a section by its file and its index there
pub stays_at : (files : List File) (b : Bindings) (f k : ℕ) → f < length files → k < section_count (file_at files f) → may_stay files b f k ≡ true →
    may_stay_at files b (section_no files f k) ≡ true
stays_at files b f k lt below stays =
    let n : ℕ = section_no files f k in
    let place = place_is files n f (record { file = lt; from = omega arith; below = omega (arith, section_more files f lt) }) in
    let index : n - first_section files f ≡ k = omega arith in
    ap (λ p. may_stay files b p.file p.index) place ∙ ap (may_stay files b f) index ∙ stays

abbrev pub Stays : List File → Bindings → Bound → Type 0
Stays files b (InSection section offset) = may_stay_at files b section ≡ true
Stays files b (Number n) = Unit {0}
Stays files b (Linker n) = Unit {0}
Stays files b Nobody = Unit {0}

-- a section of a file's own
own_stays : (files : List File) (b : Bindings) (f k : ℕ) → f < length files → (file_at files f).live ≡ true → writes (file_at files f) k ≡ true →
    is_gone b (section_no files f k) ≡ false → may_stay_at files b (section_no files f k) ≡ true
unfolding may_stay
own_stays files b f k lt live written here =
    let below = written_within (file_at files f) k written in
    let own : is_own files b f k ≡ true = lt-ltb k (length (file_at files f).head.sections) below in
    let both : (writes (file_at files f) k && not (is_gone b (section_no files f k))) ≡ true =
    ap (λ w. w && not (is_gone b (section_no files f k))) written ∙ ap not here in
    stays_at files b f k lt (omega (arith, below, counted (file_at files f) live)) (cond-true (is_own files b f k) _ _ own ∙ both)

-- the room of a COMMON symbol of file f
pub record IsRoom (files : List File) (f : ℕ) (c : BoundCommon) : Type 0 where
  pub index : ℕ
  pub number : c.section ≡ section_no files f index
  pub after : length (file_at files f).head.sections ≤ index
  pub below : index < section_count (file_at files f)

some_or : {X : Type 0} (t : Bool) (x : X) (o : Option X) → is_some o ≡ true → is_some (if t then Some x else o) ≡ true
some_or true x o some = refl
some_or false x o some = some

found_step : (t : Bool) (d c : BoundCommon) (ds : List BoundCommon) (o : Option BoundCommon) → (if t then Some d else o) ≡ Some c →
    (o ≡ Some c → is_some (common_of ds c.section) ≡ true) → is_some (common_of (d ∷ ds) c.section) ≡ true
found_step true d c ds o found later =
    let same : d ≡ c = cc in
    ap is_some (cond-true (d.section == c.section) (Some d) (common_of ds c.section) (eq-eqb d.section c.section (ap (λ (x : BoundCommon). x.section) same)))
found_step false d c ds o found later = some_or (d.section == c.section) d (common_of ds c.section) (later found)

found_some : (cs : List BoundCommon) (c : BoundCommon) (p : BoundCommon → Bool) → find p cs ≡ Some c → is_some (common_of cs c.section) ≡ true
found_some [] c p found = let no : ⊥ = cc in absurd no
found_some (d ∷ ds) c p found = found_step (p d) d c ds (find p ds) found (found_some ds c p)

-- the rooms of a file's COMMON symbols
rooms_are : (files : List File) (gone : List Bool) (f : ℕ) → f < length files → All (IsRoom files f) (bound_commons_in files gone f)
unfolding bound_commons_in bound_common_at
rooms_are files gone f lt =
    let file = file_at files f in
    each_if (IsRoom files f) file.live (flat_map (bound_common_at files gone f) (range_with_len 0 (length file.head.symbols))) (λ live.
    each_flat (IsRoom files f) (bound_common_at files gone f) 0 (length file.head.symbols) (λ i less.
    let wanted : Bool = rank_bound files gone f i == rank_of 1 f i in
    one_if (IsRoom files f) (is_common (symbol_at file i).place && wanted)
    (record { file = f; symbol = i; section = common_no files f i; size = greatest_size (symbol_name file i) (demands files); align = greatest_align (symbol_name file i) (demands files) })
    (λ is. let both = and_parts (is_common (symbol_at file i).place) wanted is in
    record {
      index = length file.head.sections + commons_before file i;
      number = omega arith;
      after = omega arith;
      below = omega (arith, counted file live, common_below file i (omega (arith, less)) both.0);
    })))

commons_are : (files : List File) (b : Bindings) (f : ℕ) → IsBindingOf files b → f < length files → All (IsRoom files f) (commons_at b.commons f)
unfolding bindings with_linker offered_bindings
commons_are files b f (gone, entry, is) lt =
    let P : List BoundCommon → Type 0 = λ cs. All (IsRoom files f) cs in
    let own : commons_at b.commons f ≡ bound_commons_in files gone f =
    ap (λ (n : Bindings). commons_at n.commons f) is ∙ get_or-map-range_with_len (bound_commons_in files gone) 0 (length files) f f [] lt (omega arith) in
    subst P (sym own) (rooms_are files gone f lt)

room_stays : (files : List File) (b : Bindings) (f : ℕ) (c : BoundCommon) (p : BoundCommon → Bool) → f < length files → IsRoom files f c →
    find p (commons_at b.commons f) ≡ Some c → may_stay_at files b c.section ≡ true
unfolding may_stay
room_stays files b f c p lt room found =
    let k = room.index in
    let number = room.number in
    let after : is_own files b f k ≡ false = le-ltb k (length (file_at files f).head.sections) room.after in
    let there : is_some (common_in files b f k) ≡ true =
    ap (λ n. is_some (common_of (commons_at b.commons f) n)) (sym number) ∙ found_some (commons_at b.commons f) c p found in
    ap (may_stay_at files b) number ∙ stays_at files b f k lt room.below (cond-false (is_own files b f k) _ _ after ∙ there)

found_stays : (files : List File) (b : Bindings) (f : ℕ) (p : BoundCommon → Bool) (cs : List BoundCommon) (o : Option BoundCommon) → f < length files →
    All (IsRoom files f) (commons_at b.commons f) → find p (commons_at b.commons f) ≡ o → find p cs ≡ o → ((c : BoundCommon) → o ≡ Some c → IsRoom files f c) → Stays files b (room_of o)
found_stays files b f p cs None lt all found own rooms = tt
found_stays files b f p cs (Some c) lt all found own rooms = room_stays files b f c p lt (rooms c refl) found

one_is : (files : List File) (f : ℕ) (t : Bool) (d c : BoundCommon) (o : Option BoundCommon) → IsRoom files f d → (o ≡ Some c → IsRoom files f c) →
    (if t then Some d else o) ≡ Some c → IsRoom files f c
one_is files f true d c o own rest e = let same : d ≡ c = cc in subst (IsRoom files f) same own
one_is files f false d c o own rest e = rest e

first_is : (files : List File) (f : ℕ) (p : BoundCommon → Bool) (cs : List BoundCommon) → All (IsRoom files f) cs → (c : BoundCommon) → find p cs ≡ Some c → IsRoom files f c
first_is files f p [] all c found = let no : ⊥ = cc in absurd no
first_is files f p (d ∷ ds) all c found =
    one_is files f (p d) d c (find p ds) (All-head (IsRoom files f) d ds all) (first_is files f p ds (All-tail (IsRoom files f) d ds all) c) found

defined_stays : (files : List File) (b : Bindings) (f i : ℕ) (place : Place) (s : Symbol) → IsBindingOf files b → f < length files → (file_at files f).live ≡ true →
    Stays files b (defined_by files b place f i s)
defined_stays files b f i Undef s is lt live = tt
defined_stays files b f i Absolute s is lt live = tt
defined_stays files b f i Common s is lt live =
    let p : BoundCommon → Bool = λ c. c.symbol == i in
    let cs = commons_at b.commons f in
    let all = commons_are files b f is lt in
    found_stays files b f p cs (find p cs) lt all refl refl (first_is files f p cs all)
defined_stays files b f i (Within k) s is lt live = go (is_gone b (section_no files f k)) refl (writes (file_at files f) k) refl
  where
    go : (g : Bool) → is_gone b (section_no files f k) ≡ g → (w : Bool) → writes (file_at files f) k ≡ w →
        Stays files b (if g then Nobody else (if w then InSection (section_no files f k) (offset_in s) else unwritten (file_at files f) k s))
    go true gone w written = tt
    go false here true written = own_stays files b f k lt live written here
    go false here false written =
        either (Stays files b) (is_frame_at (file_at files f) k && s.value == 0) (Linker frame_start_no) (Number s.value) tt tt

definitions_stay : (files : List File) (b : Bindings) → IsBindingOf files b → OfDefinitions files b (Stays files b)
unfolding definition
definitions_stay files b is = λ f i lt live. defined_stays files b f i (symbol_at (file_at files f) i).place (symbol_at (file_at files f) i) is lt live

-- of each symbol of a file that takes part, and of the entry
pub bound_stays : (files : List File) (b : Bindings) (f i : ℕ) → IsBindingOf files b → AreFew files → f < length files → (file_at files f).live ≡ true → Stays files b (bound files b f i)
bound_stays files b f i is few lt live = bound_has files b (Stays files b) f i is few tt (λ name n found. tt) (definitions_stay files b is) lt live

pub entry_stays : (files : List File) (b : Bindings) → IsBindingOf files b → AreFew files → Stays files b (entry_bound files b)
entry_stays files b is few = entry_has files b (Stays files b) is few tt (λ name n found. tt) (definitions_stay files b is)
