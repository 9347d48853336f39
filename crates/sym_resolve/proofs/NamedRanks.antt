-- The least rank on offer for a name, by one look at each offer.
use Rattle.std.proofs.Common.{◌≡◌, ℕ, ◌^◌, ◌<◌, ◌≤◌, nat_lt, min, Bool, true, false, if◌then◌else◌, List, [], ◌∷◌, length, map, All, refl, ap, ◌∙◌, ⊎_elim, arith}
use Rattle.std.specs.Str.{bytes_eq}
use Rattle.std.proofs.lemmas.List.{get_or_past}
use Rattle.std.proofs.lemmas.List.Elements.{All-head, All-tail}
use Rattle.std.proofs.lemmas.Bool.{cond-true, cond-false, cases_lt, and_from, and_left, and_right, lt-ltb, le-ltb}
use Rattle.claim_core.specs.declared.events.Event.{Event}
use Rattle.claim_core.specs.Events.{event}
use Rattle.lk_tables.specs.Files.{File, file_at, no_file, symbol_at, symbol_name, symbol_total}
use Rattle.lk_tables.specs.Binding.{Offer, class_of, offer_at, offers_in, offers, least_rank, bound_rank}
use Rattle.lk_tables.specs.Names.{text_of}
use Rattle.lk_tables.specs.Ranks.{no_rank, rank_of, symbol_of_rank}
use Rattle.lk_tables.proofs.BoundHas.{one_if}
use Rattle.lk_tables.proofs.FirstNumbers.{first_within}
use Rattle.lk_tables.proofs.RankParts.{file_back}
use Rattle.sym_resolve.specs.Claims.{claims}
use Rattle.sym_resolve.specs.NamedOffers.{offered_name, lesser_named, least_named}
use Rattle.sym_resolve.proofs.Walks.{all_symbols, live_within}
use Rattle.name_numbers.proofs.NameWords.{word_of}
use Rattle.sym_resolve.proofs.Meaning.{claims_are}
use Rattle.name_numbers.proofs.LeastClaims.{least_most}

-- past the last file there is no name
pub past_name : (files : List File) (f i : ℕ) → length files ≤ f → symbol_name (file_at files f) i ≡ []
unfolding text_of
past_name files f i past = ap (λ (x : File). symbol_name x i) (get_or_past files f no_file past)

rank_symbol : (k f i : ℕ) → i < 2 ^ 31 → symbol_of_rank (rank_of k f i) ≡ i
rank_symbol k f i few = omega arith

-- each offer's rank says whose name it offers
say_names : (files : List File) (gone : List Bool) → length files < 2 ^ 24 → symbol_total files < 2 ^ 31 → All (λ o. offered_name files o.rank ≡ o.name) (offers files gone)
unfolding offers offers_in offer_at
say_names files gone many few =
    all_symbols (λ (o : Offer). offered_name files o.rank ≡ o.name) files (offer_at files gone)
    (λ f i live lt. one_if (λ (o : Offer). offered_name files o.rank ≡ o.name) _ _ (λ is.
    let within = live_within files f live in
    let sum = first_within files f within in
    let k = class_of (symbol_at (file_at files f) i) in
    ap (λ g. symbol_name (file_at files g) (symbol_of_rank (rank_of k f i))) (file_back k f i (omega arith) (omega arith))
    ∙ ap (symbol_name (file_at files f)) (rank_symbol k f i (omega arith))))

lesser_is : (files : List File) (name : List ℕ) (best rank : ℕ) (b : Bool) → bytes_eq (offered_name files rank) name ≡ b → lesser_named files name best rank ≡ (if b then min best rank else best)
lesser_is files name best rank false is = cond-false _ rank best (and_right (nat_lt rank best) (bytes_eq (offered_name files rank) name) is)
lesser_is files name best rank true is = ⊎_elim
    (λ (lt : rank < best). cond-true _ rank best (and_from (nat_lt rank best) (bytes_eq (offered_name files rank) name) (lt-ltb rank best lt) is) ∙ (let e : rank ≡ min best rank = omega arith in e))
    (λ (ge : best ≤ rank). cond-false _ rank best (and_left (nat_lt rank best) (bytes_eq (offered_name files rank) name) (le-ltb rank best ge)) ∙ (let e : best ≡ min best rank = omega arith in e))
    (cases_lt rank best)

min_if : (b : Bool) (best rank later : ℕ) → min (if b then min best rank else best) later ≡ min best (if b then min rank later else later)
min_if true best rank later = omega arith
min_if false best rank later = refl

most_if : (b : Bool) (best rank : ℕ) → best ≤ no_rank → (if b then min best rank else best) ≤ no_rank
most_if true best rank le = omega arith
most_if false best rank le = le

named_least : (files : List File) (name : List ℕ) (W : List ℕ → ℕ) (best : ℕ) (os : List Offer) → best ≤ no_rank → All (λ o. offered_name files o.rank ≡ o.name) os → least_named files name best (map (λ o. event (W o.name) o.rank) os) ≡ min best (least_rank name os)
unfolding least_rank
named_least files name W best [] le says = omega arith
named_least files name W best (o ∷ os) le says =
    let b = bytes_eq o.name name in
    let own : bytes_eq (offered_name files o.rank) name ≡ b = ap (λ t. bytes_eq t name) (All-head (λ (p : Offer). offered_name files p.rank ≡ p.name) o os says) in
    ap (λ k. least_named files name k (map (λ (p : Offer). event (W p.name) p.rank) os)) (lesser_is files name best o.rank b own)
    ∙ named_least files name W (if b then min best o.rank else best) os (most_if b best o.rank le) (All-tail (λ (p : Offer). offered_name files p.rank ≡ p.name) o os says)
    ∙ min_if b best o.rank (least_rank name os)

least_most_of : (rank : ℕ) → rank ≤ no_rank → min no_rank rank ≡ rank
least_most_of rank le = omega arith

pub rank_named : (files : List File) (gone : List Bool) (name : List ℕ) (es : List Event) → length files < 2 ^ 24 → symbol_total files < 2 ^ 31 → es ≡ claims files gone → least_named files name no_rank es ≡ bound_rank files gone name
unfolding bound_rank
rank_named files gone name es many few is =
    ap (least_named files name no_rank) (is ∙ claims_are files gone)
    ∙ named_least files name (word_of files) no_rank (offers files gone) (omega arith) (say_names files gone many few)
    ∙ least_most_of (least_rank name (offers files gone)) (least_most name (offers files gone))
