-- Claims on the numbers of names, and what they come to: the first offer of each name.
use Rattle.std.proofs.Common.{◌≡◌, ℕ, zero, suc, ◌+◌, ◌<◌, ◌||◌, ◌==◌, ◌⊎◌, inl, inr, not, Bool, true, false, if◌then◌else◌, List, [], ◌∷◌, ◌++◌, length, map, get_or, All, refl, sym, ap, ◌∙◌, subst, arith}
use Rattle.std.specs.Prelude.{flat_map}
use Rattle.std.specs.List.{range_with_len}
use Rattle.std.proofs.lemmas.Bool.{cond-true, cond-false, and_parts, or_left, or_cases, eqb-true}
use Rattle.std.proofs.lemmas.List.{map-append}
use Rattle.lk_base.proofs.Ranges.{same_range}
use Rattle.claim_core.specs.declared.events.Event.{Event}
use Rattle.claim_core.specs.Events.{event, none_of, after, AllInRow}
use Rattle.lk_tables.specs.declared.heads.Symbol.{Symbol}
use Rattle.lk_tables.specs.Files.{File, file_at, symbol_at, symbol_name, symbol_total, is_visible}
use Rattle.lk_tables.specs.Symbols.{is_undef, is_common}
use Rattle.lk_tables.specs.Binding.{Offer, is_offer}
use Rattle.lk_tables.specs.Ranks.{no_rank}
use Rattle.lk_tables.specs.NameNumbers.{is_named, name_number}
use Rattle.lk_tables.proofs.BoundHas.{one_if}
use Rattle.name_numbers.proofs.Walks.{all_range, walk_push, walk_skip}
use Rattle.name_numbers.proofs.NameWords.{IsName, word_of, word_named, is_name_of_symbol}
use Rattle.name_numbers.proofs.LeastClaims.{claim_of, claims_fit, least_claimed}
use Rattle.file_live.specs.Live.{early_rank, early_offer_at, early_offers_in, early_offers, early, asks}
use Rattle.file_live.specs.Claims.{claim_at, claims_in, claims}

abbrev pub offer_of : (name : List ℕ) (rank : ℕ) → Offer
offer_of name rank = record { name = name; rank = rank }

-- an offer's name counts, and so does one that is asked for
pub offer_named : (s : Symbol) → is_offer s ≡ true → is_named s ≡ true
offer_named s is = or_left (is_visible s) (is_common s.place) (and_parts (is_visible s) (not (is_undef s.place)) is).0

seen_if : (binding : ℕ) → (binding == 1 || binding == 10) ≡ true → not (binding == 0) ≡ true
seen_if binding is = or_cases_of binding (or_cases (binding == 1) (binding == 10) is)
  where
    or_cases_of : (b : ℕ) → ((b == 1) ≡ true) ⊎ ((b == 10) ≡ true) → not (b == 0) ≡ true
    or_cases_of b (inl e) = let P : ℕ → Type 0 = λ k. not (k == 0) ≡ true in subst P (sym (eqb-true b 1 e)) refl
    or_cases_of b (inr e) = let P : ℕ → Type 0 = λ k. not (k == 0) ≡ true in subst P (sym (eqb-true b 10 e)) refl

pub ask_named : (s : Symbol) → asks s ≡ true → is_named s ≡ true
ask_named s is = or_left (is_visible s) (is_common s.place) (seen_if s.binding (and_parts (is_undef s.place) _ is).1)

-- a loop that lists claims
pub claim_next : (files : List File) (f i : ℕ) (old new base : List Event) (e : Event) → is_offer (symbol_at (file_at files f) i) ≡ true → e ≡ event (name_number files f i) (early_rank files f i) → new ≡ old ++ e ∷ [] → old ≡ base ++ flat_map (claim_at files f) (range_with_len 0 i) → new ≡ base ++ flat_map (claim_at files f) (range_with_len 0 (i + 1))
unfolding claim_at
claim_next files f i old new base e is made push before =
    walk_push (claim_at files f) base old new e i before push
    (cond-true (is_offer (symbol_at (file_at files f) i)) (event (name_number files f i) (early_rank files f i) ∷ []) [] is ∙ ap (λ x. x ∷ []) (sym made))

pub claim_skip : (files : List File) (f i : ℕ) (old base : List Event) → is_offer (symbol_at (file_at files f) i) ≡ false → old ≡ base ++ flat_map (claim_at files f) (range_with_len 0 i) → old ≡ base ++ flat_map (claim_at files f) (range_with_len 0 (i + 1))
unfolding claim_at
claim_skip files f i old base none before =
    walk_skip (claim_at files f) base old i before (cond-false (is_offer (symbol_at (file_at files f) i)) (event (name_number files f i) (early_rank files f i) ∷ []) [] none)

-- the claims are those of the offers
map_range : {X Y : Type 0} (h : X → Y) (g : ℕ → List X) (a n : ℕ) → map h (flat_map g (range_with_len a n)) ≡ flat_map (λ k. map h (g k)) (range_with_len a n)
map_range h g a zero = refl
map_range h g a (suc n) = map-append h (g a) (flat_map g (range_with_len (a + 1) n)) ∙ ap (λ xs. map h (g a) ++ xs) (map_range h g (a + 1) n)

claim_if : (b : Bool) (h : Offer → Event) (o : Offer) (e : Event) → (b ≡ true → e ≡ h o) → (if b then e ∷ [] else []) ≡ map h (if b then o ∷ [] else [])
claim_if true h o e is = ap (λ x. x ∷ []) (is refl)
claim_if false h o e is = refl

pub claims_are : (files : List File) → claims files ≡ map (claim_of (word_of files)) (early_offers files)
unfolding claims claims_in claim_at early_offers early_offers_in early_offer_at
claims_are files =
    let h = claim_of (word_of files) in
    sym (map_range h (early_offers_in files) 0 (length files)
    ∙ same_range (λ f. map h (early_offers_in files f)) (claims_in files) 0 (length files) (λ f low high.
    map_range h (early_offer_at files f) 0 (length (file_at files f).head.symbols)
    ∙ same_range (λ i. map h (early_offer_at files f i)) (claim_at files f) 0 (length (file_at files f).head.symbols) (λ i low2 high2.
    sym (claim_if (is_offer (symbol_at (file_at files f) i)) h (offer_of (symbol_name (file_at files f) i) (early_rank files f i)) (event (name_number files f i) (early_rank files f i)) (λ is.
    ap (λ w. event w (early_rank files f i)) (word_named files f i (offer_named (symbol_at (file_at files f) i) is)))))))

offers_named : (files : List File) → All (λ o. IsName files o.name) (early_offers files)
unfolding early_offers early_offers_in early_offer_at
offers_named files =
    let P : Offer → Type 0 = λ o. IsName files o.name in
    all_range P (early_offers_in files) 0 (length files) (λ f low high.
    all_range P (early_offer_at files f) 0 (length (file_at files f).head.symbols) (λ i low2 high2.
    one_if P (is_offer (symbol_at (file_at files f) i)) (offer_of (symbol_name (file_at files f) i) (early_rank files f i)) (λ is.
    is_name_of_symbol files f i (omega arith) (omega arith) (offer_named (symbol_at (file_at files f) i) is))))

pub claims_in_row : (files : List File) → AllInRow (symbol_total files) (claims files)
claims_in_row files = let P : List Event → Type 0 = AllInRow (symbol_total files) in subst P (sym (claims_are files)) (claims_fit files (early_offers files) (offers_named files))

-- the row has the first offer of each name that is asked for
pub row_first : (files : List File) (row : List ℕ) (f i word : ℕ) → row ≡ after (none_of (symbol_total files)) (claims files) → f < length files → i < length (file_at files f).head.symbols → asks (symbol_at (file_at files f) i) ≡ true → word ≡ name_number files f i → get_or row word no_rank ≡ early files (symbol_name (file_at files f) i)
unfolding early
row_first files row f i word is lt inside asking read =
    let named = ask_named (symbol_at (file_at files f) i) asking in
    ap (λ w. get_or row w no_rank) (read ∙ word_named files f i named)
    ∙ least_claimed files (early_offers files) (offers_named files) row (is ∙ ap (after (none_of (symbol_total files))) (claims_are files)) (symbol_name (file_at files f) i) (is_name_of_symbol files f i lt inside named)
