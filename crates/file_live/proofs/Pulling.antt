-- The members that files pull.
use Rattle.std.proofs.Common.{◌≡◌, ◌≢◌, ℕ, ◌^◌, ◌<◌, ◌≤◌, ◌==◌, ◌&&◌, min, Bool, true, false, if◌then◌else◌, Option, Some, None, List, [], ◌∷◌, length, get_or, All, Contains, refl, sym, ap, ◌∙◌, subst, ⊎_elim, arith}
use Rattle.std.specs.Prelude.{option_to_list}
use Rattle.std.specs.List.{range_with_len}
use Rattle.std.specs.Str.{bytes_eq}
use Rattle.std.proofs.lemmas.List.{get_or_past}
use Rattle.std.proofs.lemmas.List.FromFn.{length-range_with_len, length-map-range_with_len, get_or-map-range_with_len}
use Rattle.std.proofs.lemmas.List.Folds.{Any-from_list_any, list_any_at}
use Rattle.std.proofs.lemmas.List.Elements.{All-nil, All-cons, All-head, All-tail, All-contains}
use Rattle.std.proofs.lemmas.Bool.{cases_Bool, cases_lt, cond-true, cond-false, and_parts, and_from, eqb-true, eq-eqb}
use Rattle.lk_tables.specs.Files.{File, file_at, no_file, symbol_at, symbol_name, symbol_total}
use Rattle.lk_tables.specs.Binding.{Offer, is_offer, least_rank}
use Rattle.lk_tables.specs.Ranks.{no_rank, class_of_rank, file_of}
use Rattle.lk_tables.specs.Reach.{ends_at}
use Rattle.lk_tables.proofs.BoundHas.{one_if}
use Rattle.lk_tables.proofs.FirstNumbers.{first_within}
use Rattle.lk_tables.proofs.RankParts.{file_back}
use Rattle.name_numbers.proofs.Walks.{all_range, in_range}
use Rattle.file_live.specs.declared.claims.TheConstants.{MEMBER_CLASS}
use Rattle.file_live.specs.Live.{early_class, early_rank, early_offer_at, early_offers_in, early_offers, early, asks, is_of_member, pulls_by, pulls}
use Rattle.file_live.specs.Pulls.{pulled, pulled_in, ends}
use Rattle.file_live.proofs.Claimed.{offer_of}
use Rattle.lk_base.proofs.Ranges.{range_read}

-- a symbol that pulls
pub record IsPuller (files : List File) (f g : ℕ) : Type 0 where
  pub symbol : ℕ
  pub inside : symbol < length (file_at files f).head.symbols
  pub asking : asks (symbol_at (file_at files f) symbol) ≡ true
  pub member : is_of_member g (early files (symbol_name (file_at files f) symbol)) ≡ true

pub puller : (files : List File) (f g : ℕ) → pulls files f g ≡ true → IsPuller files f g
unfolding pulls pulls_by
puller files f g is =
    let n = length (file_at files f).head.symbols in
    let any = Any-from_list_any (pulls_by files f g) (range_with_len 0 n) is in
    let k : ℕ = any.0 in
    let i : ℕ = any.1 in
    let short = any.2 in
    let lt : k < n = omega (arith, length-range_with_len 0 n) in
    let at : i ≡ k = sym any.3 ∙ range_read n k i lt in
    let both = and_parts (asks (symbol_at (file_at files f) i)) (is_of_member g (early files (symbol_name (file_at files f) i))) any.4 in
    record { symbol = i; inside = omega arith; asking = both.0; member = both.1 }

pub pulls_at : (files : List File) (f g : ℕ) → IsPuller files f g → pulls files f g ≡ true
unfolding pulls pulls_by
pulls_at files f g p =
    let i = p.symbol in
    let n = length (file_at files f).head.symbols in
    let at : get_or (range_with_len 0 n) i 0 ≡ i = range_read n i 0 p.inside in
    let P : ℕ → Type 0 = λ j. pulls_by files f g j ≡ true in
    let short = p.inside in
    list_any_at (pulls_by files f g) (range_with_len 0 n) i 0 (omega (arith, length-range_with_len 0 n))
    (subst P (sym at) (and_from (asks (symbol_at (file_at files f) i)) (is_of_member g (early files (symbol_name (file_at files f) i))) p.asking p.member))

-- what a symbol pulls, case by case
abbrev takes : List File → (f i : ℕ) → Bool
takes files f i = asks (symbol_at (file_at files f) i) && class_of_rank (early files (symbol_name (file_at files f) i)) == MEMBER_CLASS

pub pulled_none : (files : List File) (f i : ℕ) → asks (symbol_at (file_at files f) i) ≡ false → pulled files f i ≡ None
unfolding pulled
pulled_none files f i no_ask = cond-false (takes files f i) (Some (file_of (early files (symbol_name (file_at files f) i)))) None (ap (λ b. b && class_of_rank (early files (symbol_name (file_at files f) i)) == MEMBER_CLASS) no_ask)

pub pulled_other : (files : List File) (f i rank : ℕ) → asks (symbol_at (file_at files f) i) ≡ true → rank ≡ early files (symbol_name (file_at files f) i) → (class_of_rank rank == MEMBER_CLASS) ≡ false → pulled files f i ≡ None
unfolding pulled
pulled_other files f i rank asking is other =
    cond-false (takes files f i) (Some (file_of (early files (symbol_name (file_at files f) i)))) None
    (ap (λ b. b && class_of_rank (early files (symbol_name (file_at files f) i)) == MEMBER_CLASS) asking ∙ ap (λ r. class_of_rank r == MEMBER_CLASS) (sym is) ∙ other)

pub pulled_some : (files : List File) (f i rank g : ℕ) → asks (symbol_at (file_at files f) i) ≡ true → rank ≡ early files (symbol_name (file_at files f) i) → (class_of_rank rank == MEMBER_CLASS) ≡ true → g ≡ file_of rank → pulled files f i ≡ Some g
unfolding pulled
pulled_some files f i rank g asking is own read =
    cond-true (takes files f i) (Some (file_of (early files (symbol_name (file_at files f) i)))) None
    (and_from (asks (symbol_at (file_at files f) i)) _ asking (ap (λ r. class_of_rank r == MEMBER_CLASS) (sym is) ∙ own))
    ∙ ap (λ r. Some (file_of r)) (sym is) ∙ ap Some (sym read)

-- what a file pulls is what the definition says
pub all_option : (P : ℕ → Type 0) (b : Bool) (g : ℕ) → (b ≡ true → P g) → All P (option_to_list (if b then Some g else None))
all_option P true g holds = All-cons P g [] (holds refl) (All-nil P)
all_option P false g holds = All-nil P

pub in_option : (b : Bool) (g h : ℕ) → b ≡ true → g ≡ h → Contains (option_to_list (if b then Some g else None)) h
in_option true g h is same = (0, omega arith, same)
in_option false g h is same = absurd cc

pub pulled_is : (files : List File) (f g : ℕ) → Contains (pulled_in files f) g → pulls files f g ≡ true
unfolding pulled_in pulled
pulled_is files f g has =
    let P : ℕ → Type 0 = λ h. pulls files f h ≡ true in
    All-contains P (pulled_in files f) g
    (all_range P (λ i. option_to_list (pulled files f i)) 0 (length (file_at files f).head.symbols) (λ i low high.
    all_option P (takes files f i) (file_of (early files (symbol_name (file_at files f) i))) (λ both.
    let parts = and_parts (asks (symbol_at (file_at files f) i)) _ both in
    let rank = early files (symbol_name (file_at files f) i) in
    pulls_at files f (file_of rank) (record { symbol = i; inside = omega arith; asking = parts.0; member = and_from (class_of_rank rank == MEMBER_CLASS) (file_of rank == file_of rank) parts.1 (eq-eqb (file_of rank) (file_of rank) refl) }))))
    has

pub pulled_has : (files : List File) (f g : ℕ) → pulls files f g ≡ true → Contains (pulled_in files f) g
unfolding pulled_in pulled
pulled_has files f g is =
    let p = puller files f g is in
    let inside = p.inside in
    let rank = early files (symbol_name (file_at files f) p.symbol) in
    let both = and_parts (class_of_rank rank == MEMBER_CLASS) (file_of rank == g) p.member in
    in_range (λ i. option_to_list (pulled files f i)) 0 (length (file_at files f).head.symbols) p.symbol g (omega arith) (omega arith)
    (in_option (takes files f p.symbol) (file_of rank) g (and_from (asks (symbol_at (file_at files f) p.symbol)) _ p.asking both.0) (eqb-true (file_of rank) g both.1))

-- a file that pulls is one of the table's
pub puller_within : (files : List File) (f g : ℕ) → pulls files f g ≡ true → f < length files
puller_within files f g is = ⊎_elim
    (λ (lt : f < length files). lt)
    (λ (past : length files ≤ f).
    let none : length (file_at files f).head.symbols ≡ 0 = ap (λ (x : File). length x.head.symbols) (get_or_past files f no_file past) in
    let inside = (puller files f g is).inside in
    absurd (omega arith))
    (cases_lt f (length files))

pub length_ends : (files : List File) → length (ends files) ≡ length files
unfolding ends
length_ends files = length-map-range_with_len (pulled_in files) 0 (length files)

pub ends_read : (files : List File) (f : ℕ) → f < length files → ends_at (ends files) f ≡ pulled_in files f
unfolding ends
ends_read files f lt = get_or-map-range_with_len (pulled_in files) 0 (length files) f f [] lt (omega arith)

-- a rank that a name has is none, or one on offer
least_one : (P : ℕ → Type 0) (b : Bool) (rank later : ℕ) → P rank → P later → P (if b then min rank later else later)
least_one P true rank later here there = ⊎_elim
    (λ (lt : rank < later). let e : rank ≡ min rank later = omega arith in subst P e here)
    (λ (ge : later ≤ rank). let e : later ≡ min rank later = omega arith in subst P e there)
    (cases_lt rank later)
least_one P false rank later here there = there

least_some : (P : ℕ → Type 0) (text : List ℕ) (os : List Offer) → P no_rank → All (λ o. P o.rank) os → P (least_rank text os)
unfolding least_rank
least_some P text [] none each = none
least_some P text (o ∷ os) none each =
    least_one P (bytes_eq o.name text) o.rank (least_rank text os) (All-head (λ (x : Offer). P x.rank) o os each)
    (least_some P text os none (All-tail (λ (x : Offer). P x.rank) o os each))

-- a member whose offer of a name is the first is one of the table's
pub offered_within : (files : List File) → length files < 2 ^ 24 → symbol_total files < 2 ^ 31 → (text : List ℕ) (g : ℕ) → is_of_member g (early files text) ≡ true → g < length files
unfolding early early_offers early_offers_in early_offer_at
offered_within files few small text g first =
    let P : ℕ → Type 0 = λ r. is_of_member g r ≡ true → g < length files in
    let Q : Offer → Type 0 = λ o. P o.rank in
    let none : P no_rank = λ e. absurd cc in
    let each : All Q (early_offers files) =
    all_range Q (early_offers_in files) 0 (length files) (λ e low high.
    all_range Q (early_offer_at files e) 0 (length (file_at files e).head.symbols) (λ i low2 high2.
    one_if Q (is_offer (symbol_at (file_at files e) i)) (offer_of (symbol_name (file_at files e) i) (early_rank files e i)) (λ ok member.
    let class = early_class (file_at files e) (symbol_at (file_at files e) i) in
    let same = eqb-true (file_of (early_rank files e i)) g (and_parts (class_of_rank (early_rank files e i) == MEMBER_CLASS) (file_of (early_rank files e i) == g) member).1 in
    let back = file_back class e i (omega arith) (let lt : e < length files = omega arith in omega (arith, first_within files e lt)) in
    let own : g ≡ e = sym same ∙ back in
    omega arith))) in
    least_some P text (early_offers files) none each first

-- so is one that is pulled
pub pull_within : (files : List File) → length files < 2 ^ 24 → symbol_total files < 2 ^ 31 → (f g : ℕ) → pulls files f g ≡ true → g < length files
pull_within files few small f g is =
    let p = puller files f g is in
    offered_within files few small (symbol_name (file_at files f) p.symbol) g p.member

pub some_within : (files : List File) → length files < 2 ^ 24 → symbol_total files < 2 ^ 31 → (f i g : ℕ) → i < length (file_at files f).head.symbols → Some g ≡ pulled files f i → g < length files
unfolding pulled_in
some_within files few small f i g lt is =
    let P : Option ℕ → Type 0 = λ o. Contains (option_to_list o) g in
    pull_within files few small f g (pulled_is files f g
    (in_range (λ j. option_to_list (pulled files f j)) 0 (length (file_at files f).head.symbols) i g (omega arith) (omega arith) (subst P is (0, omega arith, refl))))

pub not_equal : (a b : ℕ) → a ≢ b → (a == b) ≡ false
not_equal a b ne = ⊎_elim (λ (e : (a == b) ≡ true). absurd (ne (eqb-true a b e))) (λ (other : (a == b) ≡ false). other) (cases_Bool (a == b))
