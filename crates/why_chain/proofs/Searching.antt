-- A search in breadth. A list of numbers leads from a state to another, one step for each number. A queue has states in the order of the least
-- lists that lead to them from the start: each one was met from an earlier one, by a number.
use Rattle.std.proofs.Common.{◌≡◌, ◌⊎◌, ℕ, ◌+◌, ◌<◌, ◌≤◌, ltb, cond, Option, Some, List, [], ◌∷◌, ◌++◌, length, option_and_then, refl, sym, ap, ap₂, ◌∙◌, subst, inl, inr, append_assoc, append-nil, eq-or-lt_of_le, arith}
use Rattle.std.proofs.lemmas.Bool.{cases_lt, cond-true, cond-false, lt-ltb, le-ltb}
use Rattle.std.proofs.lemmas.List.{length_push}
use Rattle.std.proofs.lemmas.Option.{option_and_then_some, same_Some}
use Rattle.why_chain.specs.ShortLists.{Before, NotAfter}
use Rattle.why_chain.proofs.Orders.{before_last, before_push, longer_after, not_after_last, not_after_push, not_after_trans}

-- where a list leads from a state
abbrev pub after : {S : Type 0} → (step : S → ℕ → Option S) → S → List ℕ → Option S
after step s [] = Some s
after step s (k ∷ ks) = option_and_then (λ t. after step t ks) (step s k)

pub after_push : {S : Type 0} (step : S → ℕ → Option S) (s : S) (w : List ℕ) (k : ℕ) (t u : S) → after step s w ≡ Some t → step t k ≡ Some u → after step s (w ++ k ∷ []) ≡ Some u
after_push step s [] k t u e f = ap (option_and_then (λ v. after step v [])) (ap (λ x. step x k) (same_Some s t e) ∙ f)
after_push step s (j ∷ w) k t u e f =
    option_and_then_some (λ v. after step v w) (step s j) t e (λ v at rest.
    ap (option_and_then (λ x. after step x (w ++ k ∷ []))) at ∙ after_push step v w k t u rest f)

-- a state stands in the queue, and no list of a given one's numbers comes before what leads to it
abbrev pub StandsBy : {S : Type 0} → (state : ℕ → S) → (word : ℕ → List ℕ) → (len : ℕ) → S → List ℕ → Type 0
StandsBy state word len s list = (j : ℕ) × (j < len) × (state j ≡ s) × NotAfter (word j) list

-- so many states, of which those before a place have had all their steps
pub record IsSearch {S : Type 0} (step : S → ℕ → Option S) (start : S) (state : ℕ → S) (froms keys : ℕ → ℕ) (len place : ℕ) : Type 0 where
  pub word : ℕ → List ℕ
  pub some : 0 < len
  pub within : place ≤ len
  pub begins : state 0 ≡ start
  pub empty : word 0 ≡ []
  pub earlier : (i : ℕ) → 0 < i → i < len → froms i < i
  pub low : (i : ℕ) → 0 < i → i < len → froms i < place
  pub made : (i : ℕ) → 0 < i → i < len → word i ≡ word (froms i) ++ keys i ∷ []
  pub leads : (i : ℕ) → i < len → after step start (word i) ≡ Some (state i)
  pub short : (i : ℕ) → i < len → length (word i) ≤ i
  pub rises : (i j : ℕ) → i < j → j < len → Before (word i) (word j)
  pub closed : (i k : ℕ) (t : S) → i < place → step (state i) k ≡ Some t → StandsBy state word len t (word i ++ k ∷ [])

-- the start alone
pub search_starts : {S : Type 0} (step : S → ℕ → Option S) (start : S) (state : ℕ → S) (froms keys : ℕ → ℕ) → state 0 ≡ start → IsSearch step start state froms keys 1 0
search_starts step start state froms keys is = record {
  word = λ i. [];
  some = omega arith;
  within = omega arith;
  begins = is;
  empty = refl;
  earlier = λ i pos less. absurd (omega arith);
  low = λ i pos less. absurd (omega arith);
  made = λ i pos less. absurd (omega arith);
  leads = λ i less. let first : i ≡ 0 = omega arith in ap Some (sym (ap state first ∙ is));
  short = λ i less. omega arith;
  rises = λ i j under less. absurd (omega arith);
  closed = λ i k t less e. absurd (omega arith);
}

-- a longer queue begins with the shorter one
pub record IsLonger {S : Type 0} (state : ℕ → S) (froms keys : ℕ → ℕ) (now : ℕ → S) (places numbers : ℕ → ℕ) (len : ℕ) : Type 0 where
  pub states : (i : ℕ) → i < len → now i ≡ state i
  pub backs : (i : ℕ) → i < len → places i ≡ froms i
  pub letters : (i : ℕ) → i < len → numbers i ≡ keys i

-- what stands in it beyond was met from a state at a place, by rising numbers, and all steps of that state lead to the queue
pub record HasSteps {S : Type 0} (step : S → ℕ → Option S) (s : S) (now : ℕ → S) (places numbers : ℕ → ℕ) (len more place : ℕ) : Type 0 where
  pub backs : (i : ℕ) → len ≤ i → i < more → places i ≡ place
  pub leads : (i : ℕ) → len ≤ i → i < more → step s (numbers i) ≡ Some (now i)
  pub rises : (i j : ℕ) → len ≤ i → i < j → j < more → numbers i < numbers j
  pub all : (k : ℕ) (t : S) → step s k ≡ Some t → (j : ℕ) × (j < more) × (now j ≡ t) × (len ≤ j → numbers j ≤ k)

module _ {S : Type 0} (step : S → ℕ → Option S) (start : S) (state : ℕ → S) (froms keys : ℕ → ℕ) (len place : ℕ) (h : IsSearch step start state froms keys len place) where
  -- what leads to a state of the queue comes before what leads on from the place
  old_low : place < len → (i k : ℕ) → i < len → Before (h.word i) (h.word place ++ k ∷ [])
  old_low inside i k less = elim (cases_lt 0 i) [
    | inl pos ↦
        let P : List ℕ → Type 0 = λ l. Before l (h.word place ++ k ∷ []) in
        subst P (sym (h.made i pos less)) (before_push (h.word (froms i)) (h.word place) (keys i) k (h.rises (froms i) place (h.low i pos less) inside))
    | inr none ↦
        let first : i ≡ 0 = omega arith in
        let nothing : length (h.word i) ≡ 0 = ap length (ap h.word first ∙ h.empty) in
        inl (omega (arith, length_push (h.word place) k))
  ]

  module _ (now : ℕ → S) (places numbers : ℕ → ℕ) (more : ℕ) (inside : place < len) (longer : len ≤ more)
      (same : IsLonger state froms keys now places numbers len) (next : HasSteps step (state place) now places numbers len more place) where
    words : ℕ → List ℕ
    words i = cond (ltb i len) (h.word i) (h.word place ++ numbers i ∷ [])

    old_word : (i : ℕ) → i < len → words i ≡ h.word i
    unfolding words
    old_word i less = cond-true (ltb i len) (h.word i) (h.word place ++ numbers i ∷ []) (lt-ltb i len less)

    new_word : (i : ℕ) → len ≤ i → words i ≡ h.word place ++ numbers i ∷ []
    unfolding words
    new_word i most = cond-false (ltb i len) (h.word i) (h.word place ++ numbers i ∷ []) (le-ltb i len most)

    more_earlier : (i : ℕ) → 0 < i → i < more → places i < i
    more_earlier i pos less = elim (cases_lt i len) [
      | inl under ↦ omega (arith, same.backs i under, h.earlier i pos under)
      | inr most ↦ omega (arith, next.backs i most less)
    ]

    more_low : (i : ℕ) → 0 < i → i < more → places i < place + 1
    more_low i pos less = elim (cases_lt i len) [
      | inl under ↦ omega (arith, same.backs i under, h.low i pos under)
      | inr most ↦ omega (arith, next.backs i most less)
    ]

    more_made : (i : ℕ) → 0 < i → i < more → words i ≡ words (places i) ++ numbers i ∷ []
    more_made i pos less = elim (cases_lt i len) [
      | inl under ↦
          let early : froms i < len = omega (arith, h.earlier i pos under) in
          old_word i under ∙ h.made i pos under
          ∙ ap₂ (λ (w : List ℕ) (k : ℕ). w ++ k ∷ []) (sym (ap words (same.backs i under) ∙ old_word (froms i) early)) (sym (same.letters i under))
      | inr most ↦ new_word i most ∙ ap (λ (w : List ℕ). w ++ numbers i ∷ []) (sym (ap words (next.backs i most less) ∙ old_word place inside))
    ]

    more_leads : (i : ℕ) → i < more → after step start (words i) ≡ Some (now i)
    more_leads i less = elim (cases_lt i len) [
      | inl under ↦ ap (after step start) (old_word i under) ∙ h.leads i under ∙ ap Some (sym (same.states i under))
      | inr most ↦ ap (after step start) (new_word i most)
          ∙ after_push step start (h.word place) (numbers i) (state place) (now i) (h.leads place inside) (next.leads i most less)
    ]

    more_short : (i : ℕ) → i < more → length (words i) ≤ i
    more_short i less = elim (cases_lt i len) [
      | inl under ↦ omega (arith, ap length (old_word i under), h.short i under)
      | inr most ↦ omega (arith, ap length (new_word i most), length_push (h.word place) (numbers i), h.short place inside)
    ]

    more_rises : (i j : ℕ) → i < j → j < more → Before (words i) (words j)
    more_rises i j under less = elim (cases_lt j len) [
      | inl low ↦
          let first : i < len = omega arith in
          let P : List ℕ → Type 0 = λ l. Before l (words j) in
          let Q : List ℕ → Type 0 = λ l. Before (h.word i) l in
          subst P (sym (old_word i first)) (subst Q (sym (old_word j low)) (h.rises i j under low))
      | inr most ↦
          let Q : List ℕ → Type 0 = λ l. Before (words i) l in
          subst Q (sym (new_word j most)) (elim (cases_lt i len) [
            | inl first ↦ let P : List ℕ → Type 0 = λ l. Before l (h.word place ++ numbers j ∷ []) in subst P (sym (old_word i first)) (old_low inside i (numbers j) first)
            | inr late ↦
                let P : List ℕ → Type 0 = λ l. Before l (h.word place ++ numbers j ∷ []) in
                subst P (sym (new_word i late)) (before_last (h.word place) (numbers i) (numbers j) (next.rises i j late under less))
          ])
    ]

    -- a state of the old queue stands in the new one, and one of the new ones is met by no later list than another that leads there
    old_stands : (t : S) (list : List ℕ) → StandsBy state h.word len t list → StandsBy now words more t list
    old_stands t list at =
        let P : List ℕ → Type 0 = λ l. NotAfter l list in
        (at.0, omega (arith, at.1), same.states at.0 at.1 ∙ at.2, subst P (sym (old_word at.0 at.1)) at.3)

    place_stands : (k : ℕ) (t : S) → step (state place) k ≡ Some t → StandsBy now words more t (h.word place ++ k ∷ [])
    place_stands k t e =
        let at = next.all k t e in
        let j = at.0 in
        let P : List ℕ → Type 0 = λ l. NotAfter l (h.word place ++ k ∷ []) in (
          j,
          at.1,
          at.2,
          elim (cases_lt j len) [
            | inl under ↦ subst P (sym (old_word j under)) (inr (old_low inside j k under))
            | inr most ↦ subst P (sym (new_word j most)) (not_after_last (h.word place) (numbers j) k (at.3 most))
          ],
        )

    more_closed : (i k : ℕ) (t : S) → i < place + 1 → step (now i) k ≡ Some t → StandsBy now words more t (words i ++ k ∷ [])
    more_closed i k t less e =
        let under : i < len = omega arith in
        let own : step (state i) k ≡ Some t = ap (λ (s : S). step s k) (sym (same.states i under)) ∙ e in
        let P : List ℕ → Type 0 = λ l. StandsBy now words more t (l ++ k ∷ []) in
        subst P (sym (old_word i under)) (elim (cases_lt i place) [
          | inl low ↦ old_stands t (h.word i ++ k ∷ []) (h.closed i k t low own)
          | inr most ↦
              let here : place ≡ i = omega arith in
              let Q : ℕ → Type 0 = λ n. StandsBy now words more t (h.word n ++ k ∷ []) in
              subst Q here (place_stands k t (ap (λ n. step (state n) k) here ∙ own))
        ])

    pub search_more : IsSearch step start now places numbers more (place + 1)
    search_more = record {
      word = words;
      some = omega arith;
      within = omega arith;
      begins = same.states 0 h.some ∙ h.begins;
      empty = old_word 0 h.some ∙ h.empty;
      earlier = more_earlier;
      low = more_low;
      made = more_made;
      leads = more_leads;
      short = more_short;
      rises = more_rises;
      closed = more_closed;
    }

  -- a list that leads to a state: it stands before the place, or what leads to the place is not after the list
  upto : (j : ℕ) → place ≤ j → j < len → NotAfter (h.word place) (h.word j)
  upto j low less = elim (eq-or-lt_of_le low) [
    | inl same ↦ inl (ap h.word same)
    | inr under ↦ inr (h.rises place j under less)
  ]

  abbrev Known : S → List ℕ → Type 0
  Known s list = ((j : ℕ) × (j < place) × (state j ≡ s)) ⊎ ((place < len) × NotAfter (h.word place) list)

  known_from : (w u : List ℕ) (j : ℕ) (s : S) → j < len → after step (state j) w ≡ Some s → NotAfter (h.word j) u → Known s (u ++ w)
  known_from [] u j s less e low = elim (cases_lt j place) [
    | inl under ↦ inl (j, under, same_Some (state j) s e)
    | inr most ↦
        let P : List ℕ → Type 0 = λ l. NotAfter (h.word place) l in
        inr (omega arith, subst P (sym (append-nil u)) (not_after_trans (h.word place) (h.word j) u (upto j most less) low))
  ]
  known_from (k ∷ w) u j s less e low = elim (cases_lt j place) [
    | inl under ↦ option_and_then_some (λ t. after step t w) (step (state j) k) s e (λ t at rest.
        let next = h.closed j k t under at in
        let P : List ℕ → Type 0 = λ l. Known s l in
        subst P (append_assoc u (k ∷ []) w)
        (known_from w (u ++ k ∷ []) next.0 s next.1 (ap (λ x. after step x w) next.2 ∙ rest)
        (not_after_trans (h.word next.0) (h.word j ++ k ∷ []) (u ++ k ∷ []) next.3 (not_after_push (h.word j) u k low))))
    | inr most ↦
        inr (omega arith, not_after_trans (h.word place) u (u ++ k ∷ w) (not_after_trans (h.word place) (h.word j) u (upto j most less) low) (inr (longer_after u k w)))
  ]

  pub known : (w : List ℕ) (s : S) → after step start w ≡ Some s → Known s w
  known w s e =
      let P : List ℕ → Type 0 = λ l. NotAfter l [] in
      known_from w [] 0 s h.some (ap (λ x. after step x w) h.begins ∙ e) (subst P (sym h.empty) (inl refl))

  -- what leads to a place where a search ends is the least list that leads to such a state
  pub least_here : (P : S → Type 0) → ((j : ℕ) → j < place → P (state j) → ⊥) → (w : List ℕ) (s : S) → after step start w ≡ Some s → P s → NotAfter (h.word place) w
  least_here P missed w s e is = elim (known w s e) [
    | inl at ↦ absurd (missed at.0 at.1 (subst P (sym at.2) is))
    | inr more ↦ more.1
  ]

  -- and where the queue ends no list leads to one
  pub none_here : (P : S → Type 0) → ((j : ℕ) → j < place → P (state j) → ⊥) → len ≤ place → (w : List ℕ) (s : S) → after step start w ≡ Some s → P s → ⊥
  none_here P missed all w s e is = elim (known w s e) [
    | inl at ↦ missed at.0 at.1 (subst P (sym at.2) is)
    | inr more ↦ omega (arith, more.0)
  ]
