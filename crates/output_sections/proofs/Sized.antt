-- The items of sound files have sizes and alignments as they can be, are few, and have few bytes together.
use Rattle.std.proofs.Common.{◌≡◌, ℕ, ◌-◌, ◌<◌, ◌≤◌, ◌==◌, Bool, true, false, ◌&&◌, List, [], ◌∷◌, length, flat_map, refl, sym, arith, subst, cond, inl, inr, count_ones}
use Rattle.std.specs.Prelude.{if◌then◌else◌, max, find, is_some, Option, Some}
use Rattle.std.specs.Int.{is_power_of_two}
use Rattle.std.specs.Int.Count.{ones_step}
use Rattle.std.specs.List.{All, range_with_len}
use Rattle.std.specs.Str.{bytes_eq}
use Rattle.std.proofs.lemmas.List.Elements.{All-head, All-tail}
use Rattle.std.proofs.lemmas.List.FromFn.{get_or-map-range_with_len}
use Rattle.std.proofs.lemmas.Bool.{and_parts, ltb-true, cases_lt, eq-eqb}
use Rattle.std.proofs.lemmas.Nat.{ones_le_self}
use Rattle.lk_base.specs.declared.abi.TheConstants.{ALIGN_MAX, NOBITS_MAX}
use Rattle.lk_tables.specs.declared.commons.BoundCommon.{BoundCommon}
use Rattle.lk_tables.specs.declared.heads.Place.{Place}
use Rattle.lk_tables.specs.declared.heads.Place.TheVariants.{Undef, Absolute, Common, Within}
use Rattle.lk_tables.specs.declared.heads.Symbol.{Symbol}
use Rattle.lk_tables.specs.declared.section_places.SectionPlace.{SectionPlace}
use Rattle.lk_tables.specs.declared.tables.Tables.{Tables}
use Rattle.lk_tables.specs.BoundNames.{IsBindingOf, bindings, with_linker}
use Rattle.lk_tables.specs.Binding.{Bindings, Demand, offered_bindings, bound_common_at, bound_commons_in, demand_at, demands, demands_in, greatest_align, greatest_size, rank_bound}
use Rattle.lk_tables.specs.Files.{File, IsSound, common_no, file_at, first_section, no_symbol, section_at, symbol_at, symbol_name, writes}
use Rattle.lk_tables.specs.Inside.{IsAlignment, IsCommonWithin, IsLinked}
use Rattle.lk_tables.specs.Ranks.{rank_of}
use Rattle.lk_tables.specs.Symbols.{is_common}
use Rattle.lk_tables.specs.TablesView.{files_of}
use Rattle.lk_tables.specs.Targets.{commons_at}
use Rattle.lk_tables.proofs.BoundHas.{each_flat, each_if, one_if}
use Rattle.lk_tables.proofs.Owners.{IsOwner, owner_below, place_is, place_law, written_within}
use Rattle.lk_tables.proofs.SoundFiles.{inside_body, sound_file}
use Rattle.link_sections.specs.InputSections.{InputSection, common_in, input_at, input_of, is_own, may_stay, may_stay_at, room_input, section_input}
use Rattle.output_sections.specs.Items.{IsStaying}

-- the checks of each file that takes part have passed
abbrev pub AllSound : List File → Type 0
AllSound files = (f : ℕ) → (file_at files f).live ≡ true → IsSound (file_at files f)

pub all_sound : (tables : Tables) → AllSound (files_of tables)
all_sound tables = λ f live. sound_file tables f live

-- what may go into an executable
pub record IsModest (s : InputSection) : Type 0 where
  pub some : 1 ≤ s.align
  pub power : is_power_of_two s.align ≡ true
  pub aligned : s.align ≤ ALIGN_MAX
  pub sized : s.size ≤ NOBITS_MAX

-- an alignment of 0 counts as 1
one_power : is_power_of_two 1 ≡ true
one_power = let one : count_ones 1 ≡ 1 = omega (arith, ones_step 1, ones_le_self 0) in eq-eqb (count_ones 1) 1 one

power_of : (a : ℕ) → IsAlignment a → is_power_of_two (max 1 a) ≡ true
power_of a is =
    elim (cases_lt 0 a) [
      | inl some ↦
          let same : a ≡ max 1 a = omega (arith, some) in
          subst (λ n. is_power_of_two n ≡ true) same (is.power (λ none. absurd (omega (arith, some, none))))
      | inr none ↦ let same : 1 ≡ max 1 a = omega (arith, none) in subst (λ n. is_power_of_two n ≡ true) same one_power
    ]

-- a written section
modest_section : (file : File) (k : ℕ) → IsSound file → writes file k ≡ true → IsModest (section_input file k)
modest_section file k sound written =
    let both = and_parts _ _ written in
    let low : 0 < k = ltb-true 0 k both.0 in
    let linked : IsLinked (length file.head.sections) (section_at file k) = (inside_body file sound).linked k _ (written_within file k written) low both.1 in
    record {
      some = omega arith;
      power = power_of (section_at file k).align linked.align;
      aligned = omega (arith, linked.align.most);
      sized = linked.size;
    }

-- what a COMMON symbol of a sound file asks for
record IsAsked (d : Demand) : Type 0 where
  some : 1 ≤ d.align
  power : is_power_of_two d.align ≡ true
  aligned : d.align ≤ ALIGN_MAX
  sized : d.size ≤ NOBITS_MAX

common_is : (p : Place) → is_common p ≡ true → p ≡ Common
common_is Undef is = let no : ⊥ = cc in absurd no
common_is Absolute is = let no : ⊥ = cc in absurd no
common_is Common is = refl
common_is (Within k) is = let no : ⊥ = cc in absurd no

asked_symbol : (name : List ℕ) (s : Symbol) → IsCommonWithin s → IsAsked (record { name = name; size = s.size; align = max 1 s.value })
asked_symbol name s within = record { some = omega arith; power = power_of s.value within.align; aligned = omega (arith, within.align.most); sized = within.size }

asked_at : (files : List File) (f i : ℕ) → IsSound (file_at files f) → i < length (file_at files f).head.symbols → All IsAsked (demand_at files f i)
unfolding demand_at
asked_at files f i sound lt =
    one_if IsAsked (is_common (symbol_at (file_at files f) i).place)
    (record { name = symbol_name (file_at files f) i; size = (symbol_at (file_at files f) i).size; align = max 1 (symbol_at (file_at files f) i).value })
    (λ common. asked_symbol (symbol_name (file_at files f) i) (symbol_at (file_at files f) i)
    ((inside_body (file_at files f) sound).commons i no_symbol lt (common_is (symbol_at (file_at files f) i).place common)))

asked_in : (files : List File) (f : ℕ) → AllSound files → All IsAsked (demands_in files f)
unfolding demands_in
asked_in files f sound =
    each_if IsAsked (file_at files f).live (flat_map (demand_at files f) (range_with_len 0 (length (file_at files f).head.symbols))) (λ live.
    each_flat IsAsked (demand_at files f) 0 (length (file_at files f).head.symbols) (λ i lt. asked_at files f i (sound f live) (omega (arith, lt))))

asked : (files : List File) → AllSound files → All IsAsked (demands files)
unfolding demands
asked files sound = each_flat IsAsked (demands_in files) 0 (length files) (λ f lt. asked_in files f sound)

-- the greatest of them
max_by : (b : Bool) (m n most : ℕ) → m ≤ most → n ≤ most → (if b then max m n else n) ≤ most
max_by true m n most low high = omega arith
max_by false m n most low high = high

max_above : (b : Bool) (m n least : ℕ) → least ≤ n → least ≤ (if b then max m n else n)
max_above true m n least above = omega arith
max_above false m n least above = above

size_most : (name : List ℕ) (ds : List Demand) → All IsAsked ds → greatest_size name ds ≤ NOBITS_MAX
unfolding greatest_size
size_most name [] all = omega arith
size_most name (d ∷ ds) all =
    let head : IsAsked d = All-head IsAsked d ds all in
    max_by (bytes_eq d.name name) d.size (greatest_size name ds) (NOBITS_MAX) head.sized (size_most name ds (All-tail IsAsked d ds all))

align_most : (name : List ℕ) (ds : List Demand) → All IsAsked ds → greatest_align name ds ≤ ALIGN_MAX
unfolding greatest_align
align_most name [] all = omega arith
align_most name (d ∷ ds) all =
    let head : IsAsked d = All-head IsAsked d ds all in
    max_by (bytes_eq d.name name) d.align (greatest_align name ds) (ALIGN_MAX) head.aligned (align_most name ds (All-tail IsAsked d ds all))

align_least : (name : List ℕ) (ds : List Demand) → 1 ≤ greatest_align name ds
unfolding greatest_align
align_least name [] = omega arith
align_least name (d ∷ ds) = max_above (bytes_eq d.name name) d.align (greatest_align name ds) 1 (align_least name ds)

max_power : (b : Bool) (m n : ℕ) → is_power_of_two m ≡ true → is_power_of_two n ≡ true → is_power_of_two (if b then max m n else n) ≡ true
max_power true m n one other =
    elim (cases_lt m n) [
      | inl less ↦ let same : n ≡ max m n = omega (arith, less) in subst (λ k. is_power_of_two k ≡ true) same other
      | inr least ↦ let same : m ≡ max m n = omega (arith, least) in subst (λ k. is_power_of_two k ≡ true) same one
    ]
max_power false m n one other = other

align_power : (name : List ℕ) (ds : List Demand) → All IsAsked ds → is_power_of_two (greatest_align name ds) ≡ true
unfolding greatest_align
align_power name [] all = one_power
align_power name (d ∷ ds) all =
    max_power (bytes_eq d.name name) d.align (greatest_align name ds) (All-head IsAsked d ds all).power (align_power name ds (All-tail IsAsked d ds all))

-- the room of COMMON symbols
abbrev IsModestRoom : BoundCommon → Type 0
IsModestRoom c = IsModest (room_input (Some c))

room_at : (files : List File) (gone : List Bool) (f i : ℕ) → AllSound files → All IsModestRoom (bound_common_at files gone f i)
unfolding bound_common_at
room_at files gone f i sound =
    let name : List ℕ = symbol_name (file_at files f) i in
    one_if IsModestRoom
    (is_common (symbol_at (file_at files f) i).place && rank_bound files gone f i == rank_of 1 f i)
    (record { file = f; symbol = i; section = common_no files f i; size = greatest_size name (demands files); align = greatest_align name (demands files) })
    (λ is. record {
      some = align_least name (demands files);
      power = align_power name (demands files) (asked files sound);
      aligned = align_most name (demands files) (asked files sound);
      sized = size_most name (demands files) (asked files sound);
    })

room_in : (files : List File) (gone : List Bool) (f : ℕ) → AllSound files → All IsModestRoom (bound_commons_in files gone f)
unfolding bound_commons_in
room_in files gone f sound =
    each_if IsModestRoom (file_at files f).live
    (flat_map (bound_common_at files gone f) (range_with_len 0 (length (file_at files f).head.symbols)))
    (λ live. each_flat IsModestRoom (bound_common_at files gone f) 0 (length (file_at files f).head.symbols) (λ i lt. room_at files gone f i sound))

commons_are : (files : List File) (gone : List Bool) (entry : List ℕ) (f : ℕ) → f < length files →
    commons_at (bindings files gone entry).commons f ≡ bound_commons_in files gone f
unfolding bindings with_linker offered_bindings
commons_are files gone entry f lt = get_or-map-range_with_len (bound_commons_in files gone) 0 (length files) f f [] lt (omega arith)

modest_rooms : (files : List File) (b : Bindings) (f : ℕ) → IsBindingOf files b → AllSound files → f < length files → All IsModestRoom (commons_at b.commons f)
modest_rooms files b f (gone, entry, is) sound lt =
    let P : Bindings → Type 0 = λ n. All IsModestRoom (commons_at n.commons f) in
    let Q : List BoundCommon → Type 0 = λ cs. All IsModestRoom cs in
    subst P (sym is) (subst Q (sym (commons_are files gone entry f lt)) (room_in files gone f sound))

found_by : (b : Bool) (c : BoundCommon) (rest : Option BoundCommon) → IsModestRoom c → (is_some rest ≡ true → IsModest (room_input rest))
    → is_some (cond b (Some c) rest) ≡ true → IsModest (room_input (cond b (Some c) rest))
found_by true c rest one later some = one
found_by false c rest one later some = later some

room_found : (test : BoundCommon → Bool) (cs : List BoundCommon) → All IsModestRoom cs → is_some (find test cs) ≡ true → IsModest (room_input (find test cs))
room_found test [] all some = let no : ⊥ = cc in absurd no
room_found test (c ∷ cs) all some =
    found_by (test c) c (find test cs) (All-head IsModestRoom c cs all) (room_found test cs (All-tail IsModestRoom c cs all)) some

-- a section that may stay
by_own : (own w g s : Bool) (a r : InputSection) → (if own then w && g else s) ≡ true → (w ≡ true → IsModest a) → (s ≡ true → IsModest r) → IsModest (if own then a else r)
by_own true w g s a r stays one room = one (and_parts w g stays).0
by_own false w g s a r stays one room = room stays

modest_of : (files : List File) (b : Bindings) (f k : ℕ) → IsBindingOf files b → AllSound files → f < length files → (file_at files f).live ≡ true
    → may_stay files b f k ≡ true → IsModest (input_of files b f k)
unfolding may_stay input_of
modest_of files b f k binds sound lt live stays =
    by_own (is_own files b f k) (writes (file_at files f) k) _ (is_some (common_in files b f k)) (section_input (file_at files f) k) (room_input (common_in files b f k)) stays
    (modest_section (file_at files f) k (sound f live))
    (room_found _ (commons_at b.commons f) (modest_rooms files b f binds sound lt))

pub live_by : (b : Bool) (n k : ℕ) → k < (if b then n else 0) → b ≡ true
live_by true n k lt = refl
live_by false n k lt = absurd (omega arith)

modest_in : (files : List File) (b : Bindings) (n f : ℕ) → IsBindingOf files b → AllSound files → IsOwner files n f → may_stay_at files b n ≡ true → IsModest (input_at files b n)
modest_in files b n f binds sound owner stays =
    let P : SectionPlace → Type 0 = λ p. may_stay files b p.file p.index ≡ true in
    let Q : SectionPlace → Type 0 = λ p. IsModest (input_of files b p.file p.index) in
    let place = place_is files n f owner in
    let law = place_law files n f owner in
    subst Q (sym place)
    (modest_of files b f (n - first_section files f) binds sound owner.file
    (live_by (file_at files f).live _ (n - first_section files f) law.index)
    (subst P place stays))

pub modest : (files : List File) (b : Bindings) → IsBindingOf files b → AllSound files → (n : ℕ) → IsStaying files b n → IsModest (input_at files b n)
modest files b binds sound n is =
    let own = owner_below files n (length files) (omega arith) is.number in
    modest_in files b n own.0 binds sound own.1 is.stays
