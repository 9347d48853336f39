-- The binding that is defined is the law's.
use Rattle.std.proofs.Common.{◌≡◌, ℕ, zero, suc, ◌+◌, ◌^◌, ◌<◌, ◌≤◌, ◌&&◌, ◌==◌, Bool, true, false, if◌then◌else◌, Result, Ok, Err, IfOk, List, [], ◌∷◌, ◌++◌, length, map, filter, get_or, All, Contains, refl, sym, ap, ◌∙◌, subst, ⊎_elim, arith}
use Rattle.std.specs.Prelude.{flat_map}
use Rattle.std.specs.List.{range_with_len}
use Rattle.std.specs.List.Sorted.{IsNonDecreasingBy, IsStrictlyIncreasing}
use Rattle.std.proofs.lemmas.List.{get_or-map, get_or_past, length-map}
use Rattle.std.proofs.lemmas.List.Elements.{All-cons, All-nil}
use Rattle.std.proofs.lemmas.List.FromFn.{get_or-map-range_with_len, get_or-range_with_len, length-range_with_len, length-map-range_with_len}
use Rattle.std.proofs.lemmas.List.Kept.{IsStrictlyIncreasing-filter}
use Rattle.std.proofs.lemmas.Bool.{cond-true, cond-false, cases_lt, and_parts, and_from, eq-eqb, eqb-true, not-true, not_from_false}
use Rattle.std.proofs.lemmas.List.Sorted.{IsNonDecreasingBy-from_all_adjacent}
use Rattle.lk_base.specs.declared.abi.TheConstants.{STB_LOCAL}
use Rattle.lk_base.specs.declared.defects.LinkStop.{LinkStop}
use Rattle.lk_tables.specs.declared.binding.Binding.{Binding}
use Rattle.lk_tables.specs.declared.commons.BoundCommon.{BoundCommon}
use Rattle.lk_tables.specs.Symbols.{is_common}
use Rattle.lk_tables.specs.Files.{File, common_no, commons_before, file_at, no_file, symbol_at, symbol_name, symbol_total}
use Rattle.lk_tables.specs.Binding.{Bindings, Offer, offers, bound_rank, rank_bound, demands, greatest_size, greatest_align, bound_common_at, bound_commons_in, offered_bindings}
use Rattle.lk_tables.specs.BoundNames.{bindings, with_linker}
use Rattle.lk_tables.specs.BindingView.{binding_view}
use Rattle.lk_tables.specs.NameNumbers.{name_number}
use Rattle.lk_tables.specs.Ranks.{no_rank, rank_of}
use Rattle.lk_tables.proofs.BoundHas.{one_if}
use Rattle.lk_tables.proofs.FirstNumbers.{first_within}
use Rattle.sym_resolve.specs.Asks.{room_at, rooms_asked, common_by, common_from}
use Rattle.sym_resolve.specs.Claims.{rank_by}
use Rattle.sym_resolve.specs.Law.{IsCommonIn, IsBoundCommon, IsOffered, HasItsRoom, IsLawful}
use Rattle.sym_resolve.specs.Symbols.{in_file}
use Rattle.sym_resolve.proofs.Walks.{all_in_file, in_own_file, live_within}
use Rattle.name_numbers.proofs.Runs.{in_map}
use Rattle.name_numbers.proofs.LeastClaims.{least_most}
use Rattle.sym_resolve.proofs.BoundLaw.{IsLeast, bound_law, each_bound, least_from, least_law, offered_from}
use Rattle.sym_resolve.proofs.Ends.{offer}
use Rattle.sym_resolve.proofs.CommonNumbers.{before_rises}
use Rattle.sym_resolve.proofs.CommonRoom.{size_is_most, align_is_most}
use Rattle.sym_resolve.proofs.Claiming.{bound_common}

-- one rank is bound, if it is not none
one_rank : (all : List Offer) (name : List ℕ) (a b : ℕ) → a < no_rank → b ≤ no_rank → IsLeast all name a → IsLeast all name b → a ≡ b
one_rank all name a b some most x y = ⊎_elim
    (λ (none : a ≡ no_rank). absurd (omega arith))
    (λ (has : Contains all (offer name a)).
    let low = y.least (offer name a) has refl in
    ⊎_elim
    (λ (none : b ≡ no_rank). absurd (omega arith))
    (λ (also : Contains all (offer name b)). let high = x.least (offer name b) also refl in omega arith)
    y.offered)
    x.offered

rank_below : (f i : ℕ) → f < 2 ^ 24 → i < 2 ^ 31 → rank_of 1 f i < no_rank
rank_below f i many few = omega arith

taken_if : (b : Bool) (none x r : ℕ) → (if b then none else x) ≡ r → r < none → (b ≡ false) × (x ≡ r)
taken_if true none x r is lt = absurd (omega arith)
taken_if false none x r is lt = (refl, is)

increasing_if : (b : Bool) (xs : List BoundCommon) → IsStrictlyIncreasing (map (λ c. c.symbol) xs) → IsStrictlyIncreasing (map (λ c. c.symbol) (if b then xs else []))
increasing_if true xs up = up
increasing_if false xs up = λ k lt. absurd (omega arith)

range_rises : (a n : ℕ) → IsStrictlyIncreasing (range_with_len a n)
range_rises a n k lt =
    let long = length-range_with_len a n in
    omega (arith, get_or-range_with_len a n k 0 (omega arith), get_or-range_with_len a n (k + 1) 0 (omega arith))

kept_step : (b : Bool) (c : BoundCommon) (rest : List BoundCommon) (a : ℕ) (kept : List ℕ) → c.symbol ≡ a → map (λ x. x.symbol) rest ≡ kept → map (λ x. x.symbol) ((if b then c ∷ [] else []) ++ rest) ≡ (if b then a ∷ kept else kept)
kept_step true c rest a kept is later = ap (λ k. k ∷ map (λ x. x.symbol) rest) is ∙ ap (λ ks. a ∷ ks) later
kept_step false c rest a kept is later = later

-- the symbols of entries are those of the range that pass a test
kept_range : (test : ℕ → Bool) (entry : ℕ → BoundCommon) → ((i : ℕ) → (entry i).symbol ≡ i) → (a n : ℕ) → map (λ c. c.symbol) (flat_map (λ i. if test i then entry i ∷ [] else []) (range_with_len a n)) ≡ filter test (range_with_len a n)
kept_range test entry own a zero = refl
kept_range test entry own a (suc n) =
    kept_step (test a) (entry a) (flat_map (λ i. if test i then entry i ∷ [] else []) (range_with_len (a + 1) n)) a (filter test (range_with_len (a + 1) n)) (own a) (kept_range test entry own (a + 1) n)

-- entries of one file rise by their symbols
rise_in_file : (files : List File) (f : ℕ) (test : ℕ → Bool) (entry : ℕ → BoundCommon) → ((i : ℕ) → (entry i).symbol ≡ i) → IsStrictlyIncreasing (map (λ c. c.symbol) (in_file files (λ g i. if test i then entry i ∷ [] else []) f))
rise_in_file files f test entry own =
    let n = length (file_at files f).head.symbols in
    increasing_if (file_at files f).live (flat_map (λ i. if test i then entry i ∷ [] else []) (range_with_len 0 n))
    (subst IsStrictlyIncreasing (sym (kept_range test entry own 0 n)) (IsStrictlyIncreasing-filter test (range_with_len 0 n) (range_rises 0 n)))

nondecreasing : (cs : List BoundCommon) → IsStrictlyIncreasing (map (λ c. c.symbol) cs) → IsNonDecreasingBy (λ (c : BoundCommon). c.symbol) cs
nondecreasing cs up = IsNonDecreasingBy-from_all_adjacent (λ (c : BoundCommon). c.symbol) cs (λ k d lt.
    let long = length-map cs (λ (c : BoundCommon). c.symbol) in
    let here = get_or-map (λ (c : BoundCommon). c.symbol) cs k d 0 (omega arith) in
    let next = get_or-map (λ (c : BoundCommon). c.symbol) cs (k + 1) d 0 lt in
    let less = up k (omega arith) in
    omega arith)

each_row : {X : Type 0} (P : X → Type 0) (g : ℕ → X) (a n : ℕ) → ((f : ℕ) → P (g f)) → All P (map g (range_with_len a n))
each_row P g a zero each = All-nil P
each_row P g a (suc n) each = All-cons P (g a) (map g (range_with_len (a + 1) n)) (each a) (each_row P g (a + 1) n each)

-- the lists that are put into a binding are in order of symbols
pub commons_rise : (files : List File) (row : List ℕ) (commons : List (List BoundCommon)) → commons ≡ map (in_file files (common_by files row)) (range_with_len 0 (length files)) → All (IsNonDecreasingBy (λ (c : BoundCommon). c.symbol)) commons
unfolding common_by common_from
commons_rise files row commons is =
    let Rises : List BoundCommon → Type 0 = IsNonDecreasingBy (λ (c : BoundCommon). c.symbol) in
    let P : List (List BoundCommon) → Type 0 = All Rises in
    let rooms = rooms_asked files in
    subst P (sym is) (each_row Rises (in_file files (common_by files row)) 0 (length files) (λ f.
    nondecreasing (in_file files (common_by files row) f)
    (rise_in_file files f (λ i. is_common (symbol_at (file_at files f) i).place && rank_by files row f i == rank_of 1 f i)
    (λ i. bound_common f i (common_no files f i) (room_at rooms (name_number files f i)).size (room_at rooms (name_number files f i)).align) (λ i. refl))))

-- entries whose symbols rise are in order of their sections, too: COMMON symbols are numbered in order of symbols
in_order_of_sections : (files : List File) (f : ℕ) (cs : List BoundCommon) → IsStrictlyIncreasing (map (λ c. c.symbol) cs) →
    All (λ c. (c.section ≡ common_no files f c.symbol) × (c.symbol < length (file_at files f).head.symbols)) cs →
    IsNonDecreasingBy (λ (c : BoundCommon). c.section) cs
in_order_of_sections files f cs up own = IsNonDecreasingBy-from_all_adjacent (λ (c : BoundCommon). c.section) cs (λ k d lt.
    let file = file_at files f in
    let long = length-map cs (λ (c : BoundCommon). c.symbol) in
    let here = get_or-map (λ (c : BoundCommon). c.symbol) cs k d 0 (omega arith) in
    let next = get_or-map (λ (c : BoundCommon). c.symbol) cs (k + 1) d 0 lt in
    let less = up k (omega arith) in
    let a = get_or cs k d in
    let b = get_or cs (k + 1) d in
    let first = own k d (omega arith) in
    let second = own (k + 1) d lt in
    let later : a.symbol ≤ b.symbol = omega (arith, here, next, less) in
    let rises : commons_before file a.symbol ≤ commons_before file b.symbol = before_rises file a.symbol b.symbol later (omega (arith, second.1)) in
    omega (arith, first.0, second.0, rises))

-- the lists that are put into a binding are in order of sections
pub commons_numbered : (files : List File) (row : List ℕ) (commons : List (List BoundCommon)) → commons ≡ map (in_file files (common_by files row)) (range_with_len 0 (length files)) → All (IsNonDecreasingBy (λ (c : BoundCommon). c.section)) commons
unfolding common_by common_from
commons_numbered files row commons is =
    let Rises : List BoundCommon → Type 0 = IsNonDecreasingBy (λ (c : BoundCommon). c.section) in
    let P : List (List BoundCommon) → Type 0 = All Rises in
    let rooms = rooms_asked files in
    let test = λ (f i : ℕ). is_common (symbol_at (file_at files f) i).place && rank_by files row f i == rank_of 1 f i in
    let entry = λ (f i : ℕ). bound_common f i (common_no files f i) (room_at rooms (name_number files f i)).size (room_at rooms (name_number files f i)).align in
    subst P (sym is) (each_row Rises (in_file files (common_by files row)) 0 (length files) (λ f.
    let Own : BoundCommon → Type 0 = λ c. (c.section ≡ common_no files f c.symbol) × (c.symbol < length (file_at files f).head.symbols) in
    in_order_of_sections files f (in_file files (common_by files row) f)
    (rise_in_file files f (test f) (entry f) (λ i. refl))
    (all_in_file Own files (common_by files row) f (λ i live lt. one_if Own (test f i) (entry f i) (λ _. (refl, lt))))))

module _ (files : List File) (gone : List Bool) where
  abbrev entry_of : (f i : ℕ) → BoundCommon
  entry_of f i = bound_common f i (common_no files f i) (greatest_size (symbol_name (file_at files f) i) (demands files)) (greatest_align (symbol_name (file_at files f) i) (demands files))

  abbrev is_entry : (f i : ℕ) → Bool
  is_entry f i = is_common (symbol_at (file_at files f) i).place && rank_bound files gone f i == rank_of 1 f i

  -- the list of file f, which past the last file is empty
  list_at : (f : ℕ) (lists : List (List BoundCommon)) → lists ≡ map (bound_commons_in files gone) (range_with_len 0 (length files)) → get_or lists f [] ≡ in_file files (bound_common_at files gone) f
  unfolding bound_commons_in
  list_at f lists is = ⊎_elim
      (λ (lt : f < length files). ap (λ l. get_or l f []) is ∙ get_or-map-range_with_len (bound_commons_in files gone) 0 (length files) f f [] lt (omega arith))
      (λ (past : length files ≤ f).
      let dead : (file_at files f).live ≡ false = ap (λ (x : File). x.live) (get_or_past files f no_file past) in
      let long = length-map-range_with_len (bound_commons_in files gone) 0 (length files) in
      ap (λ l. get_or l f []) is ∙ get_or_past (map (bound_commons_in files gone) (range_with_len 0 (length files))) f [] (omega arith)
      ∙ sym (cond-false (file_at files f).live (flat_map (bound_common_at files gone f) (range_with_len 0 (length (file_at files f).head.symbols))) [] dead))
      (cases_lt f (length files))

  symbols_rise : (f : ℕ) → IsStrictlyIncreasing (map (λ c. c.symbol) (in_file files (bound_common_at files gone) f))
  unfolding bound_common_at
  symbols_rise f = rise_in_file files f (is_entry f) (entry_of f) (λ i. refl)

  module _ (many : length files < 2 ^ 24) (few : symbol_total files < 2 ^ 31) where
    own_below : (f i : ℕ) → (file_at files f).live ≡ true → i < length (file_at files f).head.symbols → rank_of 1 f i < no_rank
    own_below f i live lt =
        let within = live_within files f live in
        let sum = first_within files f within in
        rank_below f i (omega arith) (omega arith)

    entry_room : (f i : ℕ) → (file_at files f).live ≡ true → i < length (file_at files f).head.symbols → is_entry f i ≡ true → HasItsRoom files gone f (entry_of f i)
    unfolding rank_bound
    entry_room f i live lt is =
        let s = symbol_at (file_at files f) i in
        let name = symbol_name (file_at files f) i in
        let parts = and_parts (is_common s.place) (rank_bound files gone f i == rank_of 1 f i) is in
        let c : IsCommonIn files f i = record { live = live; within = lt; common = parts.0 } in
        let taken = taken_if (s.binding == STB_LOCAL) no_rank (bound_rank files gone name) (rank_of 1 f i) (eqb-true (rank_bound files gone f i) (rank_of 1 f i) parts.1) (own_below f i live lt) in
        let P : ℕ → Type 0 = IsLeast (offers files gone) name in
        let own : IsOffered (offers files gone) name (rank_of 1 f i) = offered_from (offers files gone) name (rank_of 1 f i) (own_below f i live lt) (subst P taken.1 (least_law files gone name)) in
        record {
          file_is = refl;
          bound = record { common = c; visible = not_from_false (s.binding == STB_LOCAL) taken.0; own = own };
          section_is = refl;
          size_is = size_is_most files f i c;
          align_is = align_is_most files f i c;
        }

    rooms : (f : ℕ) → All (HasItsRoom files gone f) (in_file files (bound_common_at files gone) f)
    unfolding bound_common_at
    rooms f = all_in_file (HasItsRoom files gone f) files (bound_common_at files gone) f (λ i live lt. one_if (HasItsRoom files gone f) (is_entry f i) (entry_of f i) (entry_room f i live lt))

    bound_there : (f i : ℕ) → IsBoundCommon files gone f i → Contains (in_file files (bound_common_at files gone) f) (entry_of f i)
    unfolding bound_common_at bound_rank rank_bound
    bound_there f i b =
        let s = symbol_at (file_at files f) i in
        let name = symbol_name (file_at files f) i in
        let own : rank_of 1 f i ≡ bound_rank files gone name = one_rank (offers files gone) name (rank_of 1 f i) (bound_rank files gone name) (own_below f i b.common.live b.common.within) (least_most name (offers files gone)) (least_from (offers files gone) name (rank_of 1 f i) b.own) (least_law files gone name) in
        let rank : rank_bound files gone f i ≡ rank_of 1 f i = cond-false (s.binding == STB_LOCAL) no_rank (bound_rank files gone name) (not-true (s.binding == STB_LOCAL) b.visible) ∙ sym own in
        let is : is_entry f i ≡ true = and_from (is_common s.place) (rank_bound files gone f i == rank_of 1 f i) b.common.common (eq-eqb (rank_bound files gone f i) (rank_of 1 f i) rank) in
        let one : bound_common_at files gone f i ≡ entry_of f i ∷ [] = cond-true (is_entry f i) (entry_of f i ∷ []) [] is in
        let P : List BoundCommon → Type 0 = λ l. Contains l (entry_of f i) in
        in_own_file files (bound_common_at files gone) f i (entry_of f i) b.common.live b.common.within (subst P (sym one) (0, omega arith, refl))

    pub lawful : (entry : List ℕ) → IsLawful files gone entry (bindings files gone entry)
    unfolding bindings with_linker offered_bindings
    lawful entry =
        let list = λ (f : ℕ). list_at f (map (bound_commons_in files gone) (range_with_len 0 (length files))) refl in
        record {
          symbols = each_bound files gone entry many few;
          entry = bound_law files gone entry entry many few;
          commons = record {
            only = λ f. let P : List BoundCommon → Type 0 = All (HasItsRoom files gone f) in subst P (sym (list f)) (rooms f);
            each = λ f i b.
                let P : List BoundCommon → Type 0 = λ l. Contains (map (λ c. c.symbol) l) i in
                subst P (sym (list f)) (in_map (λ (c : BoundCommon). c.symbol) (in_file files (bound_common_at files gone) f) (entry_of f i) (bound_there f i b));
            once = λ f. let P : List BoundCommon → Type 0 = λ l. IsStrictlyIncreasing (map (λ c. c.symbol) l) in subst P (sym (list f)) (symbols_rise f);
          };
        }

pub lawful_binding : (files : List File) (gone : List Bool) (entry : List ℕ) (r : Result Binding LinkStop) → length files < 2 ^ 24 → symbol_total files < 2 ^ 31 → IfOk r (λ b. binding_view b ≡ bindings files gone entry) → IfOk r (λ b. IsLawful files gone entry (binding_view b))
lawful_binding files gone entry (Err stop) many few is = tt
lawful_binding files gone entry (Ok b) many few is = let P : Bindings → Type 0 = IsLawful files gone entry in subst P (sym is) (lawful files gone many few entry)
