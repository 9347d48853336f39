-- The search for a chain: what is known at a place of the queue, one place on, and where it ends.
use Rattle.std.proofs.Common.{◌≡◌, ℕ, zero, suc, ◌+◌, ◌*◌, ◌<◌, ◌≤◌, eqb, Option, Some, None, List, [], ◌∷◌, length, refl, sym, ap, ◌∙◌, subst, inl, inr, arith}
use Rattle.std.specs.List.{IsDistinct, range_with_len}
use Rattle.std.specs.List.Sorted.{IsStrictlyIncreasing}
use Rattle.std.proofs.lemmas.Bool.{cases_lt}
use Rattle.std.proofs.lemmas.List.{get_or-map, length-map}
use Rattle.std.proofs.lemmas.Option.{none-some}
use Rattle.link_sections.specs.FoldItems.{FoldItem, sections_of}
use Rattle.why_chain.specs.declared.chains.ApartEnd.{ApartEnd}
use Rattle.why_chain.specs.declared.pairs.Met.{Met}
use Rattle.why_chain.specs.declared.pairs.Pair.{Pair}
use Rattle.why_chain.specs.Aparts.{IsLeastApart, apart_chain, chain, first_end, reloc_count, two_items}
use Rattle.why_chain.specs.Meetings.{code_of, codes_of, met_all, met_by, new_pair, no_met, pair_met, places_of, vias_of}
use Rattle.why_chain.specs.ShortLists.{NotAfter}
use Rattle.why_chain.specs.Visits.{AreWords}
use Rattle.why_chain.proofs.FirstChains.{chain_is, least_apart, new_tells, no_chain}
use Rattle.why_chain.proofs.Living.{at}
use Rattle.why_chain.proofs.Meets.{AreItemsBelow, IsMeeting, IsReachedBy, few_pairs, meeting_starts, meets_rest, met_at, pair_at}
use Rattle.why_chain.proofs.Pairing.{next_inside, next_there}
use Rattle.why_chain.proofs.Searching.{IsSearch, after, least_here, none_here, search_more, search_starts}

-- the queue, and that no pair before the place has an end
pub record IsApartAt (items : List FoldItem) (a b : ℕ) (queue : List Met) (place : ℕ) : Type 0 where
  pub search : IsSearch (new_pair items) (two_items a b) (pair_at queue) (at (places_of queue)) (at (vias_of queue)) (length queue) place
  pub low : (i : ℕ) → i < length queue → AreItemsBelow (length items) (pair_at queue i)
  pub distinct : IsDistinct eqb (codes_of (length items) queue)
  pub missed : (i : ℕ) → i < place → first_end items (pair_at queue i) ≡ None

-- the first pair alone
abbrev pub first_met : (a b : ℕ) → List Met
first_met a b = met_by 0 0 (two_items a b) ∷ []

only_first : (a b n i : ℕ) → a < n → b < n → i < 1 → AreItemsBelow n (pair_at (first_met a b) i)
only_first a b n zero la lb less = (la, lb)
only_first a b n (suc i) la lb less = absurd (omega arith)

one_distinct : (x : ℕ) → IsDistinct eqb (x ∷ [])
unfolding IsDistinct
one_distinct x = (tt, tt)

pub apart_starts : (items : List FoldItem) (a b : ℕ) → a < length items → b < length items → IsApartAt items a b (first_met a b) 0
apart_starts items a b la lb = record {
  search = search_starts (new_pair items) (two_items a b) (pair_at (first_met a b)) (at (places_of (first_met a b))) (at (vias_of (first_met a b))) refl;
  low = λ i less. only_first a b (length items) i la lb less;
  distinct = one_distinct (code_of (length items) (two_items a b));
  missed = λ i less. absurd (omega arith);
}

-- the same of a queue that is the first pair alone
pub apart_begins : (items : List FoldItem) (a b : ℕ) (queue : List Met) → a < length items → b < length items → queue ≡ first_met a b → IsApartAt items a b queue 0
apart_begins items a b queue la lb is = let P : List Met → Type 0 = λ q. IsApartAt items a b q 0 in subst P (sym is) (apart_starts items a b la lb)

-- the place and the relocation of what stands at a place
pub places_wide : (queue : List Met) → length (places_of queue) ≡ length queue
places_wide queue = length-map queue (λ (m : Met). m.place)

pub place_at : (queue : List Met) (i : ℕ) → i < length queue → at (places_of queue) i ≡ (met_at queue i).place
place_at queue i less = get_or-map (λ (m : Met). m.place) queue i no_met 0 less

pub via_at : (queue : List Met) (i : ℕ) → i < length queue → at (vias_of queue) i ≡ (met_at queue i).via
via_at queue i less = get_or-map (λ (m : Met). m.via) queue i no_met 0 less

module _ (items : List FoldItem) (order : IsStrictlyIncreasing (sections_of items)) (a b : ℕ) (queue : List Met) (place : ℕ) (h : IsApartAt items a b queue place) where
  pub few_met : length queue ≤ length items * length items
  few_met = few_pairs (length items) queue h.distinct h.low

  -- one place on
  module _ (inside : place < length queue) (none : first_end items (pair_at queue place) ≡ None) where
    abbrev new : ℕ → Option Pair
    new = new_pair items (pair_at queue place)

    abbrev count : ℕ
    count = reloc_count items (pair_at queue place)

    abbrev next : List Met
    next = met_all (length items) place new (range_with_len 0 count) queue

    new_low : (j : ℕ) (t : Pair) → new j ≡ Some t → AreItemsBelow (length items) t
    new_low j t e = next_inside items (pair_at queue place) t j (new_tells items (pair_at queue place) t j e)

    new_there : (j : ℕ) (t : Pair) → new j ≡ Some t → j < 0 + count
    new_there j t e = let less = next_there items (pair_at queue place) t j (new_tells items (pair_at queue place) t j e) in omega (arith, less)

    met : IsMeeting (length items) place new queue (0 + count) next
    met = meets_rest (length items) place new queue count 0 queue (meeting_starts (length items) place new queue h.low h.distinct) new_low

    place_old : (i : ℕ) → i < length queue → at (places_of next) i ≡ at (places_of queue) i
    place_old i less = place_at next i (omega (arith, met.longer)) ∙ ap (λ (m : Met). m.place) (met.front i less) ∙ sym (place_at queue i less)

    via_old : (i : ℕ) → i < length queue → at (vias_of next) i ≡ at (vias_of queue) i
    via_old i less = via_at next i (omega (arith, met.longer)) ∙ ap (λ (m : Met). m.via) (met.front i less) ∙ sym (via_at queue i less)

    Reached : ℕ → Pair → Type 0
    Reached k t = (j : ℕ) × (j < length next) × (pair_at next j ≡ t) × (length queue ≤ j → at (vias_of next) j ≤ k)

    steps_stand : (k : ℕ) (t : Pair) → new k ≡ Some t → Reached k t
    unfolding Reached
    steps_stand k t e =
        let found : IsReachedBy (length queue) k next t = met.all k t (new_there k t e) e in
        (found.0, found.1, found.2, λ most. omega (arith, found.3 most, via_at next found.0 found.1))

    rising : (i j : ℕ) → length queue ≤ i → i < j → j < length next → at (vias_of next) i < at (vias_of next) j
    rising i j most up less = omega (arith, met.rises i j most up less, via_at next i (omega arith), via_at next j less)

    pub apart_more : IsApartAt items a b next (place + 1)
    unfolding Reached
    apart_more = record {
      search = search_more (new_pair items) (two_items a b) (pair_at queue) (at (places_of queue)) (at (vias_of queue)) (length queue) place h.search
          (pair_at next) (at (places_of next)) (at (vias_of next)) (length next) inside met.longer
          (record { states = λ i less. ap pair_met (met.front i less); backs = place_old; letters = via_old })
          (record {
            backs = λ i most less. place_at next i less ∙ met.backs i most less;
            leads = λ i most less. ap new (via_at next i less) ∙ met.leads i most less;
            rises = rising;
            all = steps_stand;
          });
      low = met.low;
      distinct = met.distinct;
      missed = λ i less. elim (cases_lt i place) [
        | inl under ↦ ap (λ m. first_end items (pair_met m)) (met.front i (omega arith)) ∙ h.missed i under
        | inr over ↦
            let here : i ≡ place = omega arith in
            ap (λ m. first_end items (pair_met m)) (met.front i (omega arith)) ∙ ap (λ n. first_end items (pair_at queue n)) here ∙ none
      ];
    }

  -- a pair with an end
  abbrev pub HasEnd : Pair → Type 0
  HasEnd p = (last : ApartEnd) × (first_end items p ≡ Some last)

  pub not_yet : (j : ℕ) → j < place → HasEnd (pair_at queue j) → ⊥
  not_yet j less has = none-some has.0 (sym (h.missed j less) ∙ has.1)

  pub words_are : AreWords (vias_of queue) (places_of queue) h.search.word
  words_are = record { first = h.search.empty; next = λ i pos less. h.search.made i pos (omega (arith, less, places_wide queue)) }

  module _ (inside : place < length queue) (last : ApartEnd) (is : first_end items (pair_at queue place) ≡ Some last) where
    not_after : (others : List ℕ) (r : Pair) (l : ApartEnd) → after (new_pair items) (two_items a b) others ≡ Some r → first_end items r ≡ Some l → NotAfter (h.search.word place) others
    not_after others r l e f =
        least_here (new_pair items) (two_items a b) (pair_at queue) (at (places_of queue)) (at (vias_of queue)) (length queue) place h.search
        HasEnd not_yet others r e (l, f)

    short_word : length (h.search.word place) < length items * length items
    short_word = omega (arith, h.search.short place inside, few_met)

    pub apart_found : (vias : List ℕ) → ((word : ℕ → List ℕ) → AreWords (vias_of queue) (places_of queue) word → vias ≡ word place) → IsLeastApart items a b (chain vias last)
    apart_found vias same =
        let P : List ℕ → Type 0 = λ l. IsLeastApart items a b (chain l last) in
        subst P (sym (same h.search.word words_are))
        (least_apart items a b (h.search.word place) (pair_at queue place) last (h.search.leads place inside) is not_after short_word)

    pub apart_is : (vias : List ℕ) → ((word : ℕ → List ℕ) → AreWords (vias_of queue) (places_of queue) word → vias ≡ word place) → Some (chain vias last) ≡ apart_chain items a b
    apart_is vias same =
        ap (λ l. Some (chain l last)) (same h.search.word words_are)
        ∙ sym (chain_is items a b (h.search.word place) (pair_at queue place) last (h.search.leads place inside) is not_after short_word)

  -- the end of the queue
  pub apart_none : length queue ≤ place → None ≡ apart_chain items a b
  apart_none all = sym (no_chain items a b (λ others r l e f.
      none_here (new_pair items) (two_items a b) (pair_at queue) (at (places_of queue)) (at (vias_of queue)) (length queue) place h.search
      HasEnd not_yet all others r e (l, f)))
