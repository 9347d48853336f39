-- The ends of a binding: the first defect of the first phase that has one, or the table.
use Rattle.std.proofs.Common.{◌≡◌, ℕ, zero, suc, ◌+◌, ◌*◌, ◌^◌, ◌<◌, ◌≤◌, ◌&&◌, ◌==◌, ◌⊎◌, not, nat_lt, min, Bool, true, false, if◌then◌else◌, Option, List, [], ◌∷◌, length, filter, get_or, Contains, refl, sym, ap, ◌∙◌, subst, inl, inr, ⊎_elim, arith}
use Rattle.std.specs.Prelude.{flat_map}
use Rattle.std.specs.List.{range_with_len}
use Rattle.std.specs.Str.{bytes_eq}
use Rattle.std.proofs.lemmas.List.Elements.{All-filter, filter-append, filter_passes, Contains-get_or}
use Rattle.std.proofs.lemmas.Bool.{cond-true, cond-false, cases_lt, ltb-true, ltb-false, eq-eqb, ne_eqb}
use Rattle.std.proofs.lemmas.Slice.Eq.{bytes_eq-Decides}
use Rattle.claim_core.specs.declared.events.Event.{Event}
use Rattle.claim_core.specs.Events.{none_of, after}
use Rattle.lk_base.specs.declared.defects.Defect.{Defect}
use Rattle.lk_base.specs.Firsts.{BeginsWith, IsFirst}
use Rattle.lk_tables.specs.Files.{File, file_at, symbol_at, symbol_total}
use Rattle.lk_tables.specs.Binding.{Bindings, Offer, no_entry, least_rank, is_strong, is_offer, is_discarded, class_of, offer_at, offered_bindings, offers_in, offers, bound_rank, duplicates_of, duplicate_defects, first_phase}
use Rattle.lk_tables.specs.BoundNames.{bindings, entry_defects, with_linker}
use Rattle.lk_tables.specs.Ranks.{no_rank, rank_of}
use Rattle.lk_tables.proofs.FirstNumbers.{first_within}
use Rattle.sym_resolve.specs.Claims.{claims, rank_at}
use Rattle.sym_resolve.specs.StrongPairs.{no_clash, least_clash, defect_of}
use Rattle.sym_resolve.specs.Symbols.{in_file, over_symbols}
use Rattle.sym_resolve.proofs.Walks.{Splits, through_symbols, live_within}
use Rattle.name_numbers.proofs.NameWords.{IsName, word_of}
use Rattle.sym_resolve.proofs.Meaning.{claims_are, offers_named, row_bound}
use Rattle.sym_resolve.proofs.Clashes.{RisesFrom, rises_lower, rises_higher, rises_range, looks, strong_alone, Agrees, first_duplicate}

-- strong offers rise, in order of file and symbol
filters_split : Splits (filter is_strong)
filters_split = record { none = refl; both = λ xs ys. filter-append is_strong xs ys }

rises_one : (o : Offer) (a b : ℕ) (s : Bool) → nat_lt o.rank (2 ^ 56) ≡ s → a ≤ b → (o.rank < 2 ^ 56 → (a ≤ o.rank) × (o.rank + 1 ≤ b)) → RisesFrom a (if s then o ∷ [] else []) b
rises_one o a b true is le own = own (ltb-true o.rank (2 ^ 56) is)
rises_one o a b false is le own = le

rises_if : (t : Bool) (o : Offer) (a b : ℕ) → a ≤ b → (o.rank < 2 ^ 56 → (a ≤ o.rank) × (o.rank + 1 ≤ b)) → RisesFrom a (filter is_strong (if t then o ∷ [] else [])) b
rises_if true o a b le own = rises_one o a b (nat_lt o.rank (2 ^ 56)) refl le own
rises_if false o a b le own = le

strong_rank : (k f i : ℕ) → rank_of k f i < 2 ^ 56 → (f * 2 ^ 32 + i ≤ rank_of k f i) × (rank_of k f i + 1 ≤ f * 2 ^ 32 + (i + 1))
strong_rank k f i lt = (omega arith, omega arith)

rises_offer : (files : List File) (gone : List Bool) (f i : ℕ) → RisesFrom (f * 2 ^ 32 + i) (filter is_strong (offer_at files gone f i)) (f * 2 ^ 32 + (i + 1))
unfolding offer_at
rises_offer files gone f i =
    let s = symbol_at (file_at files f) i in
    rises_if (is_offer s && not (is_discarded files gone f s.place)) _ (f * 2 ^ 32 + i) (f * 2 ^ 32 + (i + 1)) (omega arith) (strong_rank (class_of s) f i)

rises_live : (b : Bool) (xs : List Offer) (a high : ℕ) → a ≤ high → (b ≡ true → RisesFrom a xs high) → RisesFrom a (if b then xs else []) high
rises_live true xs a high le up = up refl
rises_live false xs a high le up = le

rises_file : (files : List File) (gone : List Bool) (f : ℕ) → symbol_total files < 2 ^ 31 → RisesFrom (f * 2 ^ 32) (in_file files (λ g i. filter is_strong (offer_at files gone g i)) f) ((f + 1) * 2 ^ 32)
rises_file files gone f few =
    let n = length (file_at files f).head.symbols in
    let g : ℕ → List Offer = λ i. filter is_strong (offer_at files gone f i) in
    rises_live (file_at files f).live (flat_map g (range_with_len 0 n)) (f * 2 ^ 32) ((f + 1) * 2 ^ 32) (omega arith)
    (λ live.
    let within = first_within files f (live_within files f live) in
    rises_lower (flat_map g (range_with_len 0 n)) (f * 2 ^ 32) (f * 2 ^ 32 + 0) ((f + 1) * 2 ^ 32) (omega arith)
    (rises_higher (flat_map g (range_with_len 0 n)) (f * 2 ^ 32 + 0) (f * 2 ^ 32 + (0 + n)) ((f + 1) * 2 ^ 32) (omega arith)
    (rises_range (λ i. f * 2 ^ 32 + i) g 0 n (λ i low high. rises_offer files gone f i))))

strong_rises : (files : List File) (gone : List Bool) → length files < 2 ^ 24 → symbol_total files < 2 ^ 31 → RisesFrom 0 (filter is_strong (offers files gone)) (2 ^ 56)
unfolding offers offers_in
strong_rises files gone many few =
    let g : ℕ → ℕ → List Offer = λ f i. filter is_strong (offer_at files gone f i) in
    let P : List Offer → Type 0 = λ os. RisesFrom 0 os (2 ^ 56) in
    subst P (sym (through_symbols (filter is_strong) filters_split files (offer_at files gone)))
    (rises_lower (over_symbols files g) 0 (0 * 2 ^ 32) (2 ^ 56) (omega arith)
    (rises_higher (over_symbols files g) (0 * 2 ^ 32) ((0 + length files) * 2 ^ 32) (2 ^ 56) (omega arith)
    (rises_range (λ f. f * 2 ^ 32) (in_file files g) 0 (length files) (λ f low high. rises_file files gone f few))))

-- the least of all is the least of the strong ones, if that is strong
min_strong : (b s : Bool) (rank all strong : ℕ) → nat_lt rank (2 ^ 56) ≡ s → min all (2 ^ 56) ≡ min strong (2 ^ 56) → min (if b then min rank all else all) (2 ^ 56) ≡ min (if s then (if b then min rank strong else strong) else strong) (2 ^ 56)
min_strong true true rank all strong is e = omega arith
min_strong true false rank all strong is e = let le = ltb-false rank (2 ^ 56) is in omega arith
min_strong false true rank all strong is e = e
min_strong false false rank all strong is e = e

least_if : (text : List ℕ) (o : Offer) (os : List Offer) (s : Bool) → least_rank text (if s then o ∷ os else os) ≡ (if s then (if bytes_eq o.name text then min o.rank (least_rank text os) else least_rank text os) else least_rank text os)
unfolding least_rank
least_if text o os true = refl
least_if text o os false = refl

strong_least : (text : List ℕ) (os : List Offer) → min (least_rank text os) (2 ^ 56) ≡ min (least_rank text (filter is_strong os)) (2 ^ 56)
unfolding least_rank
strong_least text [] = refl
strong_least text (o ∷ os) =
    min_strong (bytes_eq o.name text) (is_strong o) o.rank (least_rank text os) (least_rank text (filter is_strong os)) refl (strong_least text os)
    ∙ ap (λ k. min k (2 ^ 56)) (sym (least_if text o (filter is_strong os) (is_strong o)))

min_own : (rank later : ℕ) (b : Bool) → b ≡ true → (if b then min rank later else later) ≤ rank
min_own rank later true is = omega arith
min_own rank later false is = absurd cc

min_later : (rank later high : ℕ) (b : Bool) → later ≤ high → (if b then min rank later else later) ≤ high
min_later rank later high true le = omega arith
min_later rank later high false le = le

-- no offer of a name is below the name's least
pub least_below : (text : List ℕ) (os : List Offer) (p : Offer) → Contains os p → p.name ≡ text → least_rank text os ≤ p.rank
unfolding least_rank
least_below text [] p (k, lt, is) same = absurd (omega arith)
least_below text (o ∷ os) p (zero, lt, is) same =
    let d = bytes_eq-Decides o.name text in
    let own = min_own o.rank (least_rank text os) (bytes_eq o.name text) (d.1 (ap (λ (x : Offer). x.name) is ∙ same)) in
    omega (arith, ap (λ (x : Offer). x.rank) is)
least_below text (o ∷ os) p (suc k, lt, is) same = min_later o.rank (least_rank text os) p.rank (bytes_eq o.name text) (least_below text os p (k, omega arith, is) same)

abbrev pub offer : List ℕ → ℕ → Offer
offer name rank = record { name = name; rank = rank }

in_tail : (o p : Offer) (os : List Offer) → Contains os p → Contains (o ∷ os) p
in_tail o p os (k, lt, is) = (suc k, omega arith, is)

least_next : (text : List ℕ) (o : Offer) (os : List Offer) (later : ℕ) (b : Bool) → (b ≡ true → o.name ≡ text) → (later ≡ no_rank) ⊎ Contains os (offer text later)
    → ((if b then min o.rank later else later) ≡ no_rank) ⊎ Contains (o ∷ os) (offer text (if b then min o.rank later else later))
least_next text o os later false is has = ⊎_elim (λ (none : later ≡ no_rank). inl none) (λ (h : Contains os (offer text later)). inr (in_tail o (offer text later) os h)) has
least_next text o os later true is has = ⊎_elim
    (λ (lt : o.rank < later).
    let e : o.rank ≡ min o.rank later = omega arith in
    inr (0, omega arith, ap (λ t. offer t o.rank) (is refl) ∙ ap (offer text) e))
    (λ (ge : later ≤ o.rank).
    let e : later ≡ min o.rank later = omega arith in
    ⊎_elim
    (λ (none : later ≡ no_rank). inl (omega arith))
    (λ (h : Contains os (offer text later)).
    let P : ℕ → Type 0 = λ k. Contains (o ∷ os) (offer text k) in inr (subst P e (in_tail o (offer text later) os h)))
    has)
    (cases_lt o.rank later)

-- it is none, or that of an offer of the name
pub least_offered : (text : List ℕ) (os : List Offer) → (least_rank text os ≡ no_rank) ⊎ Contains os (offer text (least_rank text os))
unfolding least_rank
least_offered text [] = inl refl
least_offered text (o ∷ os) =
    let d = bytes_eq-Decides o.name text in
    least_next text o os (least_rank text os) (bytes_eq o.name text) d.0 (least_offered text os)

module _ (files : List File) (gone : List Bool) (row : List ℕ) (is : row ≡ after (none_of (symbol_total files)) (claims files gone)) where
  strong_agrees : Agrees (λ t. rank_at row (word_of files t)) (filter is_strong (offers files gone))
  unfolding bound_rank
  strong_agrees k d lt =
      let os = offers files gone in
      let p = get_or (filter is_strong os) k d in
      let name = All-filter is_strong (λ (o : Offer). IsName files o.name) os (offers_named files gone) k d lt in
      let strong = ltb-true p.rank (2 ^ 56) (filter_passes is_strong os k d lt) in
      let most = least_below p.name (filter is_strong os) p (Contains-get_or (filter is_strong os) k d lt) refl in
      let both = strong_least p.name os in
      row_bound files gone row is p.name name ∙ (let e : least_rank p.name os ≡ least_rank p.name (filter is_strong os) = omega arith in e)

  pub duplicates_first : length files < 2 ^ 24 → symbol_total files < 2 ^ 31 → IsFirst (duplicate_defects files gone) (defect_of (least_clash row no_clash (claims files gone)))
  unfolding duplicate_defects
  duplicates_first many few =
      let os = offers files gone in
      let L : List ℕ → ℕ = λ t. rank_at row (word_of files t) in
      let P : Option Defect → Type 0 = IsFirst (duplicates_of (filter is_strong os)) in
      let seen = ap (least_clash row no_clash) (claims_are files gone) ∙ looks row (word_of files) no_clash os ∙ strong_alone L no_clash os in
      subst P (sym (ap defect_of seen)) (first_duplicate L (filter is_strong os) 0 (2 ^ 56) (omega arith) (strong_rises files gone many few) strong_agrees)

  pub duplicate_found : (seen : List ℕ) (es : List Event) (r : Option Defect) → length files < 2 ^ 24 → symbol_total files < 2 ^ 31 → seen ≡ row → es ≡ claims files gone → r ≡ defect_of (least_clash seen no_clash es) → IsFirst (duplicate_defects files gone) r
  duplicate_found seen es r many few same also e =
      let P : Option Defect → Type 0 = IsFirst (duplicate_defects files gone) in
      subst P (sym (e ∙ ap (λ l. defect_of (least_clash l no_clash es)) same ∙ ap (λ l. defect_of (least_clash row no_clash l)) also)) (duplicates_first many few)

-- the phases
pub first_passes : (a : List Defect) (later : List (List Defect)) → a ≡ [] → first_phase (a ∷ later) ≡ first_phase later
first_passes a later none = ap (λ l. first_phase (l ∷ later)) none

pub first_stops : (a : List Defect) (later : List (List Defect)) (d : Defect) → BeginsWith a d → BeginsWith (first_phase (a ∷ later)) d
first_stops a later d first = (first.0, ap (λ l. first_phase (l ∷ later)) first.1)

pub entry_missing : (files : List File) (gone : List Bool) (entry : List ℕ) (rank : ℕ) → rank ≡ (bindings files gone entry).entry → rank ≡ no_rank → entry_defects files gone entry ≡ no_entry ∷ []
unfolding entry_defects
entry_missing files gone entry rank is none =
    let own = (bindings files gone entry).entry in cond-true (own == no_rank) (no_entry ∷ []) [] (eq-eqb own no_rank (sym is ∙ none))

pub entry_there : (files : List File) (gone : List Bool) (entry : List ℕ) (rank : ℕ) → rank ≡ (bindings files gone entry).entry → (rank ≡ no_rank → ⊥) → entry_defects files gone entry ≡ []
unfolding entry_defects
entry_there files gone entry rank is some =
    let own = (bindings files gone entry).entry in cond-false (own == no_rank) (no_entry ∷ []) [] (ne_eqb own no_rank (λ e. some (is ∙ e)))

-- a binding by offers, and with the linker's symbols
pub offered_again : (files : List File) (gone : List Bool) (entry : List ℕ) (b : Bindings) → b ≡ offered_bindings files gone entry → b ≡ offered_bindings files b.discarded entry
unfolding offered_bindings
offered_again files gone entry b is = is ∙ ap (λ g. offered_bindings files g entry) (sym (ap (λ (n : Bindings). n.discarded) is))

pub bindings_are : (files : List File) (gone : List Bool) (entry : List ℕ) (b after : Bindings) → b ≡ offered_bindings files gone entry → after ≡ with_linker files b entry → after ≡ bindings files gone entry
unfolding bindings
bindings_are files gone entry b after is more = more ∙ ap (λ n. with_linker files n entry) is
