-- Where each text is placed, the number that a slot gives is the least of an equal text.
use Rattle.std.proofs.Common.{◌≡◌, ℕ, ◌+◌, ◌<◌, ◌≤◌, true, false, Bool, List, [], ◌∷◌, ◌++◌, length, map, take, Contains, sym, ap, ◌∙◌, subst, ⊎_elim, arith}
use Rattle.std.specs.Str.{bytes_eq}
use Rattle.std.proofs.lemmas.Bool.{cases_Bool}
use Rattle.std.proofs.lemmas.List.Sums.{position_or_len_is}
use Rattle.std.proofs.lemmas.List.Elements.{Contains-append_right}
use Rattle.std.proofs.lemmas.Slice.Eq.{bytes_eq-Decides}
use Rattle.std.proofs.lemmas.List.{map_push, take_all, take_more}
use Rattle.intern_race.specs.declared.rule.OwnStep.{OwnStep}
use Rattle.intern_race.specs.Interning.{AreApart, HasPlacedAll, IsLeastOf, SeatView, after_steps, known, pair}
use Rattle.intern_race.specs.Texts.{text_at, text_number, text_numbers}
use Rattle.intern_race.proofs.Sitting.{placed_after}

-- the least number of a text equal to text i is its number
pub is_number : (texts : List (List ℕ)) (i n : ℕ) → n < length texts → text_at texts n ≡ text_at texts i → ((j : ℕ) → j < length texts → text_at texts j ≡ text_at texts i → n ≤ j)
    → n ≡ text_number texts (text_at texts i)
unfolding text_number
is_number texts i n within same most =
    let text = text_at texts i in
    let test : List ℕ → Bool = λ t. bytes_eq t text in
    sym (position_or_len_is test texts n [] (omega (arith, within))
    (λ k before. ⊎_elim
    (λ (equal : test (text_at texts k) ≡ true).
    let d = bytes_eq-Decides (text_at texts k) text in
    let least = most k (omega (arith, before, within)) (d.0 equal) in
    absurd (omega (arith, least, before)))
    (λ (no : test (text_at texts k) ≡ false). no)
    (cases_Bool (test (text_at texts k))))
    (λ below. let d = bytes_eq-Decides (text_at texts n) text in d.1 same))

-- Each text is placed, so all that are equal to text i are placed in its slot
pub first_is : (s : SeatView) (slot number i : ℕ) → AreApart s.texts (known s) → HasPlacedAll s → Contains s.placed (pair slot i) → IsLeastOf s slot number
    → number ≡ text_number s.texts (text_at s.texts i)
first_is s slot number i apart all here least =
    let own = least i here in
    is_number s.texts i number own.0 own.1 (λ j within same.
    let placed = all j within in
    let there = Contains-append_right s.seen s.placed (pair placed.0 j) placed.1 in
    let mine = Contains-append_right s.seen s.placed (pair slot i) here in
    let at : placed.0 ≡ slot = (apart.apart (pair placed.0 j) (pair slot i) there mine).1 same in
    let Has : ℕ → Type 0 = λ k. Contains s.placed (pair k j) in
    (least j (subst Has at placed.1)).2)

-- the same of a list that the seat has
pub first_of : (texts : List (List ℕ)) (s : SeatView) (slot number i : ℕ) → s.texts ≡ texts → AreApart texts (known s) → HasPlacedAll s → Contains s.placed (pair slot i) → IsLeastOf s slot number
    → number ≡ text_number texts (text_at texts i)
first_of texts s slot number i are apart all here least =
    let Apart : List (List ℕ) → Type 0 = λ ts. AreApart ts (known s) in
    let Is : List (List ℕ) → Type 0 = λ ts. number ≡ text_number ts (text_at ts i) in
    subst Is are (first_is s slot number i (subst Apart (sym are) apart) all here least)

-- each text stays placed
pub all_after : (s s' : SeatView) (own : List OwnStep) → s' ≡ after_steps s own → HasPlacedAll s → HasPlacedAll s'
all_after s s' own is all i lt =
    let long = ap (λ (x : SeatView). length x.texts) is in
    let has = all i (omega (arith, long, lt)) in
    (has.0, placed_after s s' own (pair has.0 i) is has.1)

-- one number more
pub numbers_more : (texts : List (List ℕ)) (i n : ℕ) → i < length texts → n ≡ text_number texts (text_at texts i) → map (text_number texts) (take i texts) ++ n ∷ [] ≡ map (text_number texts) (take (i + 1) texts)
numbers_more texts i n lt is =
    ap (λ k. map (text_number texts) (take i texts) ++ k ∷ []) is ∙ sym (map_push (text_number texts) (take i texts) (text_at texts i)) ∙ ap (map (text_number texts)) (sym (take_more texts i [] lt))

pub numbers_all : (texts : List (List ℕ)) (i : ℕ) → length texts ≤ i → map (text_number texts) (take i texts) ≡ text_numbers texts
unfolding text_numbers
numbers_all texts i le = ap (map (text_number texts)) (take_all i texts le)
