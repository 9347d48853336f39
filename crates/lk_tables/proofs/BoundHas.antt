-- What holds of nothing, of what each symbol of a file that takes part is by its own definition, and of each symbol of the linker's own that
-- a name has, holds of what each symbol of such a file is bound to.
use Rattle.std.proofs.Common.{◌≡◌, ℕ, zero, suc, ◌+◌, ◌*◌, ◌<◌, ◌≤◌, ◌^◌, ◌==◌, ◌&&◌, Bool, true, false, List, [], ◌∷◌, length, flat_map, min, not, refl, sym, ap, ◌∙◌, subst, arith, inl, inr, Some, None}
use Rattle.std.specs.Prelude.{Option, if◌then◌else◌}
use Rattle.std.specs.List.{All, range_with_len}
use Rattle.std.specs.Str.{bytes_eq}
use Rattle.std.proofs.lemmas.Bool.{cases_lt, cond-false, cond-true, eq-eqb, ne_eqb}
use Rattle.std.proofs.lemmas.List.{get_or_past}
use Rattle.std.proofs.lemmas.List.Elements.{All-nil, All-cons, All-head, All-tail, All-append}
use Rattle.lk_base.specs.declared.abi.TheConstants.{STB_LOCAL}
use Rattle.lk_tables.specs.declared.bounds.Bound.{Bound}
use Rattle.lk_tables.specs.declared.bounds.Bound.TheVariants.{Linker, Nobody}
use Rattle.lk_tables.specs.declared.heads.Symbol.{Symbol}
use Rattle.lk_tables.specs.BoundNames.{IsBindingOf}
use Rattle.lk_tables.specs.Binding.{Bindings, Offer, bound_rank, class_of, is_discarded, is_offer, least_rank, live_rank, offer_at, offered_bindings, offers, offers_in, rank_bound}
use Rattle.lk_tables.specs.BoundNames.{bindings, linked_rank, or_linker, rank_of_linker, with_linker}
use Rattle.lk_tables.specs.Symbols.{is_common}
use Rattle.lk_tables.specs.Files.{AreFew, File, file_at, no_symbol, section_total, symbol_at, symbol_name, symbol_no}
use Rattle.lk_tables.specs.LinkerSymbols.{fixed_count, linker_no}
use Rattle.lk_tables.specs.Ranks.{class_of_rank, file_of, is_linker_rank, linker_class, no_rank, rank_of, symbol_of_rank}
use Rattle.lk_tables.specs.Targets.{bound, bound_by, definition, entry_bound, rank_at}
use Rattle.lk_tables.proofs.ByNumber.{read_by_symbol}
use Rattle.lk_tables.proofs.FirstNumbers.{first_within}
use Rattle.lk_tables.proofs.LinkerNumbers.{IfNumber, linker_few, linker_named, same_no}
use Rattle.lk_tables.proofs.RankParts.{file_is, symbol_is}

pub class_few : (s : Symbol) → class_of s ≤ 2
class_few s = few_by (is_common s.place) _
  where
    few_by : (c d : Bool) → (if c then 1 else (if d then 2 else 0)) ≤ 2
    few_by true d = omega arith
    few_by false true = omega arith
    few_by false false = omega arith

pub offered_is : (files : List File) (gone : List Bool) (entry : List ℕ) (f i : ℕ) → f < length files → i < length (file_at files f).head.symbols →
    rank_at (offered_bindings files gone entry) (symbol_no files f i) ≡ live_rank files gone f i
unfolding offered_bindings
offered_is files gone entry f i lt below = read_by_symbol files (live_rank files gone) f i no_rank lt below

pub rank_is : (files : List File) (gone : List Bool) (entry : List ℕ) (f i : ℕ) → f < length files → i < length (file_at files f).head.symbols →
    rank_at (bindings files gone entry) (symbol_no files f i) ≡ linked_rank files (offered_bindings files gone entry) f i
unfolding bindings with_linker
rank_is files gone entry f i lt below = read_by_symbol files (linked_rank files (offered_bindings files gone entry)) f i no_rank lt below

-- each of a list over a range, and of a list that stands if a test passes
pub each_flat : {X : Type 0} (P : X → Type 0) (f : ℕ → List X) (from n : ℕ) → ((k : ℕ) → k < from + n → All P (f k)) →
    All P (flat_map f (range_with_len from n))
each_flat P f from zero each = All-nil P
each_flat P f from (suc n) each =
    All-append P (f from) (flat_map f (range_with_len (from + 1) n)) (each from (omega arith))
    (each_flat P f (from + 1) n (λ k lt. each k (omega (arith, lt))))

pub each_if : {X : Type 0} (P : X → Type 0) (b : Bool) (xs : List X) → (b ≡ true → All P xs) → All P (if b then xs else [])
each_if P true xs each = each refl
each_if P false xs each = All-nil P

pub one_if : {X : Type 0} (P : X → Type 0) (b : Bool) (x : X) → (b ≡ true → P x) → All P (if b then x ∷ [] else [])
one_if P b x one = each_if P b (x ∷ []) (λ is. All-cons P x [] (one is) (All-nil P))

pub either : {X : Type 0} (P : X → Type 0) (d : Bool) (x y : X) → P x → P y → P (if d then x else y)
either P true x y one other = one
either P false x y one other = other

-- of symbols of files that take part, by their own definitions
abbrev pub OfDefinitions : List File → Bindings → (Bound → Type 0) → Type 0
OfDefinitions files b P = (f i : ℕ) → f < length files → (file_at files f).live ≡ true → P (definition files b f i)

-- of the linker's own that a name has
abbrev pub OfLinker : List File → Bindings → (Bound → Type 0) → Type 0
OfLinker files b P = (name : List ℕ) (n : ℕ) → linker_no files b name ≡ Some n → P (Linker n)

-- so of what a rank names
abbrev Named : List File → Bindings → (Bound → Type 0) → ℕ → Type 0
Named files b P rank = P (bound_by files b rank)

-- what a rank names that is not of the linker's own
abbrev of_files : List File → Bindings → ℕ → Bound
of_files files b rank = if is_linker_rank rank then Linker (symbol_of_rank rank) else definition files b (file_of rank) (symbol_of_rank rank)

none_named : (files : List File) (b : Bindings) (P : Bound → Type 0) → P Nobody → Named files b P no_rank
unfolding bound_by
none_named files b P none = subst P (sym (cond-true (no_rank == no_rank) Nobody (of_files files b no_rank) (eq-eqb no_rank no_rank refl))) none

rank_named : (files : List File) (b : Bindings) (P : Bound → Type 0) (class f i : ℕ) → class ≤ 2 → f < 2 ^ 24 → i < 2 ^ 32 → P Nobody →
    P (definition files b f i) → Named files b P (rank_of class f i)
unfolding bound_by
rank_named files b P class f i few file symbol none own =
    let rank = rank_of class f i in
    let classed : class_of_rank rank ≡ class = omega (arith, few, file, symbol) in
    let other : is_linker_rank rank ≡ false = ne_eqb (class_of_rank rank) linker_class (λ same. omega (arith, classed, same, few)) in
    let found : of_files files b rank ≡ definition files b f i =
    cond-false (is_linker_rank rank) (Linker (symbol_of_rank rank)) (definition files b (file_of rank) (symbol_of_rank rank)) other
    ∙ ap (λ g. definition files b g (symbol_of_rank rank)) (file_is class f i few file symbol) ∙ ap (definition files b f) (symbol_is class f i symbol) in
    either P (rank == no_rank) Nobody (of_files files b rank) none (subst P (sym found) own)

-- of the rank of the linker's symbol of a name
number_named : (files : List File) (b : Bindings) (P : Bound → Type 0) (o : Option ℕ) → P Nobody → ((n : ℕ) → o ≡ Some n → P (Linker n)) →
    IfNumber (λ n. n < 2 ^ 31) o → Named files b P (rank_of_linker o)
number_named files b P None none own few = none_named files b P none
number_named files b P (Some n) none own few = subst P (sym (linker_named files b n few)) (own n refl)

pub few_numbers : (files : List File) (o : Option ℕ) → AreFew files → IfNumber (λ n. n < fixed_count + 2 * section_total files) o → IfNumber (λ n. n < 2 ^ 31) o
few_numbers files None few below = tt
few_numbers files (Some n) few below = omega (arith, below, few.section_count_is)

name_named : (files : List File) (gone : List Bool) (entry : List ℕ) (P : Bound → Type 0) (name : List ℕ) (rank : ℕ) → AreFew files → P Nobody →
    OfLinker files (bindings files gone entry) P → Named files (bindings files gone entry) P rank →
    Named files (bindings files gone entry) P (or_linker files (offered_bindings files gone entry) name rank)
unfolding bindings or_linker
name_named files gone entry P name rank few none linker offered =
    let b = offered_bindings files gone entry in
    let o = linker_no files b name in
    either (Named files (with_linker files b entry) P) (rank == no_rank) (rank_of_linker o) rank
    (number_named files (with_linker files b entry) P o none (λ n is. linker name n (same_no files b entry name ∙ is))
    (few_numbers files o few (linker_few files b name))) offered

-- of what each offer's rank names, and so the least
Offered : List File → Bindings → (Bound → Type 0) → Offer → Type 0
Offered files b P o = Named files b P o.rank

offers_named : (files : List File) (gone : List Bool) (b : Bindings) (P : Bound → Type 0) → AreFew files → P Nobody → OfDefinitions files b P →
    All (Offered files b P) (offers files gone)
unfolding offers offers_in offer_at Offered
offers_named files gone b P few none own =
    each_flat (Offered files b P) (offers_in files gone) 0 (length files) (λ f lt.
    each_if (Offered files b P) (file_at files f).live (flat_map (offer_at files gone f) (range_with_len 0 (length (file_at files f).head.symbols))) (λ live.
    each_flat (Offered files b P) (offer_at files gone f) 0 (length (file_at files f).head.symbols) (λ i below.
    let s = symbol_at (file_at files f) i in
    one_if (Offered files b P) (is_offer s && not (is_discarded files gone f s.place))
    (record { name = symbol_name (file_at files f) i; rank = rank_of (class_of s) f i })
    (λ _. rank_named files b P (class_of s) f i (class_few s) (omega (arith, few.file_count, lt))
    (omega (arith, below, few.symbol_count, first_within files f (omega (arith, lt)))) none (own f i (omega (arith, lt)) live)))))

min_named : (files : List File) (b : Bindings) (P : Bound → Type 0) (x y : ℕ) → Named files b P x → Named files b P y → Named files b P (min x y)
min_named files b P x y one other = elim (cases_lt x y) [
  | inl lt ↦ let e : x ≡ min x y = omega (arith, lt) in subst (Named files b P) e one
  | inr le ↦ let e : y ≡ min x y = omega (arith, le) in subst (Named files b P) e other
]

least_named : (files : List File) (b : Bindings) (P : Bound → Type 0) (name : List ℕ) (os : List Offer) → P Nobody → All (Offered files b P) os →
    Named files b P (least_rank name os)
unfolding least_rank Offered
least_named files b P name [] none all = none_named files b P none
least_named files b P name (o ∷ os) none all =
    let later = least_named files b P name os none (All-tail (Offered files b P) o os all) in
    either (Named files b P) (bytes_eq o.name name) (min o.rank (least_rank name os)) (least_rank name os)
    (min_named files b P o.rank (least_rank name os) (All-head (Offered files b P) o os all) later) later

live_named : (files : List File) (gone : List Bool) (b : Bindings) (P : Bound → Type 0) (f i : ℕ) → AreFew files → P Nobody → OfDefinitions files b P →
    Named files b P (live_rank files gone f i)
unfolding live_rank rank_bound bound_rank
live_named files gone b P f i few none own =
    either (Named files b P) (file_at files f).live _ no_rank
    (either (Named files b P) ((symbol_at (file_at files f) i).binding == STB_LOCAL) no_rank _ (none_named files b P none)
    (least_named files b P (symbol_name (file_at files f) i) (offers files gone) none (offers_named files gone b P few none own)))
    (none_named files b P none)

-- a symbol past the end of the table is a local one
past_bound : (files : List File) (b : Bindings) (P : Bound → Type 0) (f i : ℕ) → length (file_at files f).head.symbols ≤ i → P (definition files b f i) →
    P (bound files b f i)
unfolding bound
past_bound files b P f i past own =
    let local : ((symbol_at (file_at files f) i).binding == STB_LOCAL) ≡ true =
    ap (λ (s : Symbol). s.binding == STB_LOCAL) (get_or_past (file_at files f).head.symbols i no_symbol past) ∙ eq-eqb STB_LOCAL STB_LOCAL refl in
    subst P (sym (cond-true ((symbol_at (file_at files f) i).binding == STB_LOCAL) (definition files b f i) (bound_by files b (rank_at b (symbol_no files f i))) local)) own

linked_named : (files : List File) (gone : List Bool) (entry : List ℕ) (P : Bound → Type 0) (f i : ℕ) → AreFew files → P Nobody →
    OfLinker files (bindings files gone entry) P → OfDefinitions files (bindings files gone entry) P → f < length files →
    i < length (file_at files f).head.symbols → Named files (bindings files gone entry) P (linked_rank files (offered_bindings files gone entry) f i)
unfolding linked_rank
linked_named files gone entry P f i few none linker own lt below =
    let b = bindings files gone entry in
    let Q : ℕ → Type 0 = Named files b P in
    let name = symbol_name (file_at files f) i in
    let rank = rank_at (offered_bindings files gone entry) (symbol_no files f i) in
    let offered : Q rank = subst Q (sym (offered_is files gone entry f i lt below)) (live_named files gone b P f i few none own) in
    either Q (file_at files f).live _ no_rank
    (either Q ((symbol_at (file_at files f) i).binding == STB_LOCAL) no_rank _ (none_named files b P none)
    (name_named files gone entry P name rank few none linker offered))
    (none_named files b P none)

among_bound : (files : List File) (gone : List Bool) (entry : List ℕ) (P : Bound → Type 0) (f i : ℕ) → AreFew files → P Nobody →
    OfLinker files (bindings files gone entry) P → OfDefinitions files (bindings files gone entry) P → f < length files →
    (file_at files f).live ≡ true → i < length (file_at files f).head.symbols → P (bound files (bindings files gone entry) f i)
unfolding bound
among_bound files gone entry P f i few none linker own lt live below =
    let b = bindings files gone entry in
    either P ((symbol_at (file_at files f) i).binding == STB_LOCAL) (definition files b f i) (bound_by files b (rank_at b (symbol_no files f i)))
    (own f i lt live)
    (subst (Named files b P) (sym (rank_is files gone entry f i lt below)) (linked_named files gone entry P f i few none linker own lt below))

pub bound_has : (files : List File) (b : Bindings) (P : Bound → Type 0) (f i : ℕ) → IsBindingOf files b → AreFew files → P Nobody → OfLinker files b P →
    OfDefinitions files b P → f < length files → (file_at files f).live ≡ true → P (bound files b f i)
bound_has files b P f i (gone, entry, is) few none linker own lt live = elim (cases_lt i (length (file_at files f).head.symbols)) [
  | inl below ↦
      let R : Bindings → Type 0 = λ n. OfLinker files n P → OfDefinitions files n P → P (bound files n f i) in
      subst R (sym is) (λ first second. among_bound files gone entry P f i few none first second lt live below) linker own
  | inr past ↦ past_bound files b P f i past (own f i lt live)
]

offered_entry : (files : List File) (gone : List Bool) (entry : List ℕ) (b : Bindings) (P : Bound → Type 0) → AreFew files → P Nobody →
    OfDefinitions files b P → Named files b P (offered_bindings files gone entry).entry
unfolding offered_bindings bound_rank
offered_entry files gone entry b P few none own = least_named files b P entry (offers files gone) none (offers_named files gone b P few none own)

entry_among : (files : List File) (gone : List Bool) (entry : List ℕ) (P : Bound → Type 0) → AreFew files → P Nobody →
    OfLinker files (bindings files gone entry) P → OfDefinitions files (bindings files gone entry) P → P (entry_bound files (bindings files gone entry))
unfolding bindings with_linker
entry_among files gone entry P few none linker own =
    let b = with_linker files (offered_bindings files gone entry) entry in
    name_named files gone entry P entry (offered_bindings files gone entry).entry few none linker (offered_entry files gone entry b P few none own)

-- what the entry's name is bound to
pub entry_has : (files : List File) (b : Bindings) (P : Bound → Type 0) → IsBindingOf files b → AreFew files → P Nobody → OfLinker files b P →
    OfDefinitions files b P → P (entry_bound files b)
entry_has files b P (gone, entry, is) few none linker own =
    let R : Bindings → Type 0 = λ n. OfLinker files n P → OfDefinitions files n P → P (entry_bound files n) in
    subst R (sym is) (λ first second. entry_among files gone entry P few none first second) linker own
