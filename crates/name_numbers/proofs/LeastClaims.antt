-- What claims on the words of names come to: each name's word has the least rank on offer for the name.
use Rattle.std.proofs.Common.{◌≡◌, ◌≢◌, ℕ, ◌<◌, ◌≤◌, min, Bool, true, false, if◌then◌else◌, List, [], ◌∷◌, length, map, get_or, All, sym, ap, ◌∙◌, subst, ⊎_elim, arith}
use Rattle.std.specs.Str.{bytes_eq}
use Rattle.std.proofs.lemmas.List.{length-replicate, get_or-replicate, get_or_default}
use Rattle.std.proofs.lemmas.List.Elements.{All-head, All-tail, All-weaker, All-map}
use Rattle.std.proofs.lemmas.Bool.{cond-true, cond-false, cases_Bool, both_ways}
use Rattle.std.proofs.lemmas.Slice.Eq.{bytes_eq-Decides}
use Rattle.claim_core.specs.declared.events.Event.{Event}
use Rattle.claim_core.specs.Events.{event, none_of, lowered, after, AllInRow}
use Rattle.claim_core.proofs.EventLemmas.{length-lowered, length-after, lowered_at, lowered_else, lowered_falls}
use Rattle.lk_tables.specs.Files.{File, symbol_total}
use Rattle.lk_tables.specs.Binding.{Offer, least_rank}
use Rattle.lk_tables.specs.Ranks.{no_rank}
use Rattle.name_numbers.proofs.NameWords.{IsName, word_of, word_below, words_apart}

-- a name that has the word of the text is the text
abbrev pub Tells : (List ℕ → ℕ) → List ℕ → List ℕ → Type 0
Tells W text name = W name ≡ W text → name ≡ text

pub apart : (W : List ℕ → ℕ) (text name : List ℕ) → Tells W text name → bytes_eq name text ≡ false → W text ≢ W name
apart W text name tells not_eq same =
    let d = bytes_eq-Decides name text in both_ways (bytes_eq name text) not_eq (d.1 (tells (sym same)))

abbrev pub claim_of : (List ℕ → ℕ) → Offer → Event
claim_of W o = event (W o.name) o.rank

least_step : (W : List ℕ → ℕ) (text : List ℕ) (o : Offer) (ws : List ℕ) (later rest : ℕ) → W text < length ws → Tells W text o.name → rest ≡ min (get_or (lowered ws (claim_of W o)) (W text) 0) later → rest ≡ min (get_or ws (W text) 0) (if bytes_eq o.name text then min o.rank later else later)
least_step W text o ws later rest lt tells is = ⊎_elim
    (λ (eq : bytes_eq o.name text ≡ true).
    let d = bytes_eq-Decides o.name text in
    let P : ℕ → Type 0 = λ k. k < length ws → get_or (lowered ws (claim_of W o)) k 0 ≡ min (get_or ws k 0) o.rank in
    let own : get_or (lowered ws (claim_of W o)) (W text) 0 ≡ min (get_or ws (W text) 0) o.rank = subst P (ap W (d.0 eq)) (lowered_at ws (claim_of W o)) lt in
    omega (arith, cond-true (bytes_eq o.name text) (min o.rank later) later eq))
    (λ (ne : bytes_eq o.name text ≡ false).
    omega (arith, lowered_else ws (claim_of W o) (W text) (apart W text o.name tells ne), cond-false (bytes_eq o.name text) (min o.rank later) later ne))
    (cases_Bool (bytes_eq o.name text))

lowered_le : (W : List ℕ → ℕ) (text : List ℕ) (o : Offer) (ws : List ℕ) → get_or ws (W text) 0 ≤ no_rank → get_or (lowered ws (claim_of W o)) (W text) 0 ≤ no_rank
lowered_le W text o ws le = omega (arith, lowered_falls ws (claim_of W o) (W text))

-- the word of a text comes to the least rank on offer for the text
pub after_least : (W : List ℕ → ℕ) (text : List ℕ) (os : List Offer) (ws : List ℕ) → W text < length ws → get_or ws (W text) 0 ≤ no_rank → All (λ o. Tells W text o.name) os → get_or (after ws (map (claim_of W) os)) (W text) 0 ≡ min (get_or ws (W text) 0) (least_rank text os)
unfolding least_rank
after_least W text [] ws lt le tells = omega arith
after_least W text (o ∷ os) ws lt le tells =
    let first = All-head (λ (x : Offer). Tells W text x.name) o os tells in
    let rest = All-tail (λ (x : Offer). Tells W text x.name) o os tells in
    least_step W text o ws (least_rank text os) _ lt first
    (after_least W text os (lowered ws (claim_of W o)) (omega (arith, length-lowered ws (claim_of W o))) (lowered_le W text o ws le) rest)

least_most_next : (b : Bool) (rank later : ℕ) → later ≤ no_rank → (if b then min rank later else later) ≤ no_rank
least_most_next true rank later le = omega arith
least_most_next false rank later le = le

pub least_most : (text : List ℕ) (os : List Offer) → least_rank text os ≤ no_rank
unfolding least_rank
least_most text [] = omega arith
least_most text (o ∷ os) = least_most_next (bytes_eq o.name text) o.rank (least_rank text os) (least_most text os)

-- offers of names of the files, claimed by the names' words
module _ (files : List File) (os : List Offer) (named : All (λ o. IsName files o.name) os) where
  pub claims_fit : AllInRow (symbol_total files) (map (claim_of (word_of files)) os)
  claims_fit =
      let P : Event → Type 0 = λ e. e.word < symbol_total files in
      All-map P (claim_of (word_of files)) os (All-weaker (λ (o : Offer). IsName files o.name) (λ (o : Offer). word_of files o.name < symbol_total files) (λ o is. word_below files o.name is) os named)

  pub least_claimed : (row : List ℕ) → row ≡ after (none_of (symbol_total files)) (map (claim_of (word_of files)) os) → (text : List ℕ) → IsName files text → get_or row (word_of files text) no_rank ≡ least_rank text os
  least_claimed row is text also =
      let count = symbol_total files in
      let W = word_of files in
      let claims = map (claim_of W) os in
      let below : W text < count = word_below files text also in
      let wide : length (none_of count) ≡ count = length-replicate count no_rank in
      let none : get_or (none_of count) (W text) 0 ≡ no_rank = get_or-replicate count (W text) no_rank 0 below in
      let tells : All (λ (o : Offer). Tells W text o.name) os = All-weaker (λ (o : Offer). IsName files o.name) (λ (o : Offer). Tells W text o.name) (λ o name e. words_apart files o.name text name also e) os named in
      let long : length row ≡ count = ap length is ∙ length-after (none_of count) claims ∙ wide in
      let end = after_least W text os (none_of count) (omega arith) (omega arith) tells in
      let most = least_most text os in
      let settled : min (get_or (none_of count) (W text) 0) (least_rank text os) ≡ least_rank text os = omega arith in
      get_or_default row (W text) no_rank 0 (omega arith) ∙ ap (λ l. get_or l (W text) 0) is ∙ end ∙ settled
