-- A search passes fewer slots than there are texts: all of them hold texts that are unequal to each other and to its own.
use Rattle.std.proofs.Common.{◌≡◌, ◌≢◌, ℕ, suc, ◌+◌, ◌<◌, ◌≤◌, ◌⊎◌, inl, inr, List, length, Contains, refl, sym, ap, ◌∙◌, ⊎_elim, arith}
use Rattle.std.proofs.lemmas.Bool.{cases_lt}
use Rattle.intern_race.proofs.Holes.{Into, OneToOne, fits_into}
use Rattle.atomic_table.proofs.Lists.{one_turn}
use Rattle.intern_race.specs.declared.rule.Pair.{Pair}
use Rattle.intern_race.specs.Hash.{hash_of}
use Rattle.intern_race.specs.Interning.{AreApart, IsPassed, pair}
use Rattle.intern_race.specs.Slots.{slot_on}
use Rattle.intern_race.specs.Texts.{text_at}

-- within a turn each slot is met once
pub met_once : (slots : ℕ) (text : List ℕ) (d e : ℕ) → d < slots → e < slots → slot_on slots text d ≡ slot_on slots text e → d ≡ e
unfolding slot_on
met_once slots text d e one two same = ⊎_elim
    (λ (less : d < e).
    let is = one_turn (hash_of text + d) (hash_of text + e) slots (omega (arith, less)) (omega (arith, one, two)) same in
    omega (arith, is))
    (λ (from : e ≤ d).
    let is = one_turn (hash_of text + e) (hash_of text + d) slots (omega (arith, from)) (omega (arith, one, two)) (sym same) in
    omega (arith, is))
    (cases_lt d e)

module _ (slots : ℕ) (texts : List (List ℕ)) (i far : ℕ) (pairs : List Pair) where
  abbrev own : List ℕ
  own = text_at texts i

  -- the text of a slot that was passed, or the search's own after them
  abbrev Choice : ℕ → ℕ → Type 0
  Choice e n = ((e < far) × Contains pairs (pair (slot_on slots own e) n) × (text_at texts n ≢ own)) ⊎ ((far ≤ e) × (n ≡ i))

  abbrev Passes : Type 0
  Passes = (e : ℕ) → e < far → IsPassed texts pairs (slot_on slots own e) own

  choose : Passes → (e : ℕ) → (n : ℕ) × Choice e n
  choose passed e = ⊎_elim
      (λ (lt : e < far). let p = passed e lt in (p.0, inl (lt, p.1, p.2)))
      (λ (ge : far ≤ e). (i, inr (ge, refl)))
      (cases_lt e far)

  chosen_below : (e n : ℕ) → i < length texts → AreApart texts pairs → Choice e n → n < length texts
  chosen_below e n within apart choice = ⊎_elim
      (λ (one : (e < far) × Contains pairs (pair (slot_on slots own e) n) × (text_at texts n ≢ own)). apart.within (pair (slot_on slots own e) n) one.1)
      (λ (two : (far ≤ e) × (n ≡ i)). let is = two.1 in omega (arith, is, within))
      choice

  chosen_once : (d e m n : ℕ) → far ≤ slots → d < suc far → e < suc far → AreApart texts pairs → Choice d m → Choice e n → m ≡ n → d ≡ e
  chosen_once d e m n short one two apart this that same = ⊎_elim
      (λ (p : (d < far) × Contains pairs (pair (slot_on slots own d) m) × (text_at texts m ≢ own)). ⊎_elim
      (λ (q : (e < far) × Contains pairs (pair (slot_on slots own e) n) × (text_at texts n ≢ own)).
      let at = (apart.apart (pair (slot_on slots own d) m) (pair (slot_on slots own e) n) p.1 q.1).1 (ap (text_at texts) same) in
      let less = p.0 in
      let also = q.0 in
      met_once slots own d e (omega (arith, less, short)) (omega (arith, also, short)) at)
      (λ (q : (far ≤ e) × (n ≡ i)). absurd (p.2 (ap (text_at texts) (same ∙ q.1))))
      that)
      (λ (p : (far ≤ d) × (m ≡ i)). ⊎_elim
      (λ (q : (e < far) × Contains pairs (pair (slot_on slots own e) n) × (text_at texts n ≢ own)). absurd (q.2 (ap (text_at texts) (sym same ∙ p.1))))
      (λ (q : (far ≤ e) × (n ≡ i)). let at = p.0 in let also = q.0 in omega (arith, at, also, one, two))
      that)
      this

  pub few_passed : i < length texts → far ≤ slots → AreApart texts pairs → Passes → far < length texts
  few_passed within short apart passed =
      let f : ℕ → ℕ = λ e. (choose passed e).0 in
      let into : Into f (suc far) (length texts) = λ e lt. chosen_below e (f e) within apart (choose passed e).1 in
      let once : OneToOne f (suc far) = λ d e one two same. chosen_once d e (f d) (f e) short one two apart (choose passed d).1 (choose passed e).1 same in
      let least = fits_into (suc far) (length texts) f into once in
      omega (arith, least)
