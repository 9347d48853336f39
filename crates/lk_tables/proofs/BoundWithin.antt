-- The section in which a symbol stands, or the entry, has one of the link's numbers.
use Rattle.std.proofs.Common.{◌≡◌, ℕ, ◌+◌, ◌<◌, ◌==◌, ◌&&◌, Bool, true, false, cond, List, [], ◌∷◌, length, flat_map, refl, sym, ap, ◌∙◌, subst, arith, Some}
use Rattle.std.specs.Prelude.{Option, find, if◌then◌else◌}
use Rattle.std.specs.List.{All, count_by, range_with_len}
use Rattle.std.proofs.lemmas.Bool.{and_parts}
use Rattle.std.proofs.lemmas.List.{take_all}
use Rattle.std.proofs.lemmas.List.Elements.{All-head, All-tail}
use Rattle.std.proofs.lemmas.List.FromFn.{get_or-map-range_with_len}
use Rattle.std.proofs.lemmas.List.Sums.{count_by_more_yes, sum_by-take-le}
use Rattle.lk_tables.specs.declared.bounds.Bound.{Bound}
use Rattle.lk_tables.specs.declared.bounds.Bound.TheVariants.{InSection, Number, Linker, Nobody}
use Rattle.lk_tables.specs.declared.commons.BoundCommon.{BoundCommon}
use Rattle.lk_tables.specs.declared.heads.Place.{Place}
use Rattle.lk_tables.specs.declared.heads.Place.TheVariants.{Undef, Absolute, Common, Within}
use Rattle.lk_tables.specs.declared.heads.Symbol.{Symbol}
use Rattle.lk_tables.specs.BoundNames.{IsBindingOf}
use Rattle.lk_tables.specs.Binding.{Bindings, bound_common_at, bound_commons_in, greatest_align, greatest_size, demands, is_discarded, offered_bindings, rank_bound}
use Rattle.lk_tables.specs.BoundNames.{bindings, with_linker}
use Rattle.lk_tables.specs.Symbols.{is_common}
use Rattle.lk_tables.specs.Files.{AreFew, File, common_no, commons_before, file_at, is_frame_at, no_symbol, section_no, section_total, symbol_at, symbol_name, writes}
use Rattle.lk_tables.specs.FixedSymbols.{frame_start_no}
use Rattle.lk_tables.specs.Ranks.{rank_of}
use Rattle.lk_tables.specs.Targets.{bound, commons_at, defined_by, definition, entry_bound, offset_in, room_of, unwritten}
use Rattle.lk_tables.proofs.BoundHas.{OfDefinitions, bound_has, each_flat, each_if, either, entry_has, one_if}
use Rattle.lk_tables.proofs.FirstNumbers.{section_within}
use Rattle.lk_tables.proofs.LiveFiles.{counted}
use Rattle.lk_tables.proofs.Owners.{written_within}

abbrev pub IsWithin : List File → Bound → Type 0
IsWithin files (InSection section offset) = section < section_total files
IsWithin files (Number n) = Unit {0}
IsWithin files (Linker n) = Unit {0}
IsWithin files Nobody = Unit {0}

-- a COMMON symbol is not the last of them before the end
pub common_below : (file : File) (i : ℕ) → i < length file.head.symbols → is_common (symbol_at file i).place ≡ true →
    commons_before file i < commons_before file (length file.head.symbols)
common_below file i lt is =
    let test : Symbol → Bool = λ s. is_common s.place in
    let xs = file.head.symbols in
    let all = take_all (length xs) xs (omega arith) in
    omega (arith, count_by_more_yes test xs i no_symbol lt is, sum_by-take-le (λ s. cond (test s) 1 0) xs (i + 1), ap (count_by test) all)

-- the rooms of a file's COMMON symbols
rooms_within : (files : List File) (gone : List Bool) (f : ℕ) → f < length files → All (λ (c : BoundCommon). c.section < section_total files) (bound_commons_in files gone f)
unfolding bound_commons_in bound_common_at
rooms_within files gone f lt =
    let file = file_at files f in
    let P : BoundCommon → Type 0 = λ c. c.section < section_total files in
    each_if P file.live (flat_map (bound_common_at files gone f) (range_with_len 0 (length file.head.symbols))) (λ live.
    each_flat P (bound_common_at files gone f) 0 (length file.head.symbols) (λ i less.
    let wanted : Bool = rank_bound files gone f i == rank_of 1 f i in
    one_if P (is_common (symbol_at file i).place && wanted)
    (record { file = f; symbol = i; section = common_no files f i; size = greatest_size (symbol_name file i) (demands files); align = greatest_align (symbol_name file i) (demands files) })
    (λ is. let both = and_parts (is_common (symbol_at file i).place) wanted is in
    omega (arith, section_within files f lt, counted file live, common_below file i (omega (arith, less)) both.0))))

room_within : (files : List File) (p : BoundCommon → Bool) (cs : List BoundCommon) → All (λ (c : BoundCommon). c.section < section_total files) cs → IsWithin files (room_of (find p cs))
room_within files p [] all = tt
room_within files p (c ∷ cs) all =
    let P : BoundCommon → Type 0 = λ d. d.section < section_total files in
    let Q : Option BoundCommon → Type 0 = λ o. IsWithin files (room_of o) in
    either Q (p c) (Some c) (find p cs) (All-head P c cs all) (room_within files p cs (All-tail P c cs all))

commons_within : (files : List File) (b : Bindings) (f : ℕ) → IsBindingOf files b → f < length files → All (λ (c : BoundCommon). c.section < section_total files) (commons_at b.commons f)
unfolding bindings with_linker offered_bindings
commons_within files b f (gone, entry, is) lt =
    let P : List BoundCommon → Type 0 = λ cs. All (λ (c : BoundCommon). c.section < section_total files) cs in
    let own : commons_at b.commons f ≡ bound_commons_in files gone f =
    ap (λ (n : Bindings). commons_at n.commons f) is ∙ get_or-map-range_with_len (bound_commons_in files gone) 0 (length files) f f [] lt (omega arith) in
    subst P (sym own) (rooms_within files gone f lt)

written_in : (files : List File) (f k : ℕ) (s : Symbol) (d : Bool) → f < length files → (file_at files f).live ≡ true → (d ≡ true → k < length (file_at files f).head.sections) →
    IsWithin files (if d then InSection (section_no files f k) (offset_in s) else unwritten (file_at files f) k s)
written_in files f k s true lt live below = omega (arith, section_within files f lt, counted (file_at files f) live, below refl)
written_in files f k s false lt live below =
    either (IsWithin files) (is_frame_at (file_at files f) k && s.value == 0) (Linker frame_start_no) (Number s.value) tt tt

defined_within : (files : List File) (b : Bindings) (f i : ℕ) (place : Place) (s : Symbol) → IsBindingOf files b → f < length files → (file_at files f).live ≡ true →
    IsWithin files (defined_by files b place f i s)
defined_within files b f i Undef s is lt live = tt
defined_within files b f i Absolute s is lt live = tt
defined_within files b f i Common s is lt live = room_within files (λ c. c.symbol == i) (commons_at b.commons f) (commons_within files b f is lt)
defined_within files b f i (Within k) s is lt live =
    let found = if writes (file_at files f) k then InSection (section_no files f k) (offset_in s) else unwritten (file_at files f) k s in
    either (IsWithin files) (is_discarded files b.discarded f (Within k)) Nobody found tt
    (written_in files f k s (writes (file_at files f) k) lt live (written_within (file_at files f) k))

definitions_within : (files : List File) (b : Bindings) → IsBindingOf files b → OfDefinitions files b (IsWithin files)
unfolding definition
definitions_within files b is = λ f i lt live. defined_within files b f i (symbol_at (file_at files f) i).place (symbol_at (file_at files f) i) is lt live

-- of each symbol of a file that takes part, and of the entry
pub bound_within : (files : List File) (b : Bindings) (f i : ℕ) → IsBindingOf files b → AreFew files → f < length files → (file_at files f).live ≡ true → IsWithin files (bound files b f i)
bound_within files b f i is few lt live = bound_has files b (IsWithin files) f i is few tt (λ name n has. tt) (definitions_within files b is) lt live

pub entry_within : (files : List File) (b : Bindings) → IsBindingOf files b → AreFew files → IsWithin files (entry_bound files b)
entry_within files b is few = entry_has files b (IsWithin files) is few tt (λ name n has. tt) (definitions_within files b is)
