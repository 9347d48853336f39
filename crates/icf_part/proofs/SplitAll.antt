-- Place after place, by the runs of their items.
use Rattle.std.proofs.Common.{◌≡◌, ℕ, ◌/◌, ◌<◌, ◌≤◌, ◌^◌, List, length, get_or, Contains, sym, subst, ⊎_elim, arith}
use Rattle.std.proofs.lemmas.Bool.{cases_lt}
use Rattle.icf_part.specs.declared.classes.Classes.{Classes}
use Rattle.icf_part.specs.Classes.{AreKept, ArePlacesSplit, AreSplit, Stands, label_of, word}
use Rattle.icf_part.specs.Runs.{IsCut}
use Rattle.icf_part.proofs.Listed.{place_of}
use Rattle.icf_part.proofs.SplitRuns.{stands_first, stands_then}

pub record IsUnderTurn (n : ℕ) (words : List ℕ) (at : ℕ) (old now : Classes) (s t : ℕ) : Type 0 where
  pub stands : Stands n old now s t
  pub cut : IsCut words at
  pub apart : (i a b : ℕ) → i < at → i < length words → a < n → b < n → label_of now a ≡ label_of now b →
      Contains words (word (get_or words i 0 / 2 ^ 32) a) → Contains words (word (get_or words i 0 / 2 ^ 32) b)
  pub together : (a b : ℕ) → a < n → b < n → ((k : ℕ) → Contains words (word k a) → Contains words (word k b)) →
      ((k : ℕ) → Contains words (word k b) → Contains words (word k a)) → label_of old a ≡ label_of old b → label_of now a ≡ label_of now b

pub turn_first : (n : ℕ) (words : List ℕ) (c : Classes) (s : ℕ) → AreKept n c → IsUnderTurn n words 0 c c s s
turn_first n words c s kept = record {
  stands = stands_first n c s kept;
  cut = record { lower = λ i j li lj lt. absurd (omega arith) };
  apart = λ i a b li. absurd (omega arith);
  together = λ a b la lb there back e. e;
}

module _ (n : ℕ) (words list : List ℕ) (at end : ℕ) (old now next : Classes) (s t u : ℕ) (few : n < 2 ^ 31)
    (is : IsUnderTurn n words at old now s t) (more : at < end) (cut : IsCut words end)
    (same : (i : ℕ) → at ≤ i → i < end → get_or words i 0 / 2 ^ 32 ≡ get_or words at 0 / 2 ^ 32)
    (all : (x : ℕ) → x < 2 ^ 32 → Contains words (word (get_or words at 0 / 2 ^ 32) x) → Contains list x)
    (only : (x : ℕ) → Contains list x → (x < 2 ^ 32) × Contains words (word (get_or words at 0 / 2 ^ 32) x)) where
  pub turn_next : Stands n now next t u → AreSplit n (λ a. Contains list a) now.labels.items next.labels.items → IsUnderTurn n words end old next s u
  turn_next stands split = record {
    stands = stands_then n old now next s t u is.stands stands;
    cut = cut;
    apart = λ i a b lt inside la lb e has. ⊎_elim
        (λ (early : i < at). is.apart i a b early inside la lb (stands.goes.finer a b la lb e) has)
        (λ (here : at ≤ i).
        let upper = same i here lt in
        let P : ℕ → Type 0 = λ h. Contains words (word h a) in
        let Q : ℕ → Type 0 = λ h. Contains words (word h b) in
        subst Q (sym upper) (only b (split.apart a b la lb e (all a (omega (arith, la, few)) (subst P upper has)))).1)
        (cases_lt i at);
    together = λ a b la lb there back e.
        let h = get_or words at 0 / 2 ^ 32 in
        split.together a b la lb
        (λ has. all b (omega (arith, lb, few)) (there h (only a has).1))
        (λ has. all a (omega (arith, la, few)) (back h (only b has).1))
        (is.together a b la lb there back e);
  }

split_at : (n : ℕ) (words : List ℕ) (at : ℕ) (old now : Classes) (s t : ℕ) → length words ≤ at → n < 2 ^ 31 → IsUnderTurn n words at old now s t → (k a b : ℕ) → a < n → b < n →
    label_of now a ≡ label_of now b → Contains words (word k a) → Contains words (word k a) → Contains words (word k b)
split_at n words at old now s t le few is k a b la lb e listed has =
    let found = place_of words (word k a) listed in
    let i = found.k in
    let lt = found.within in
    let at_i = found.is in
    let upper : get_or words i 0 / 2 ^ 32 ≡ k = omega (arith, at_i, la, few) in
    let P : ℕ → Type 0 = λ h. Contains words (word h a) in
    let Q : ℕ → Type 0 = λ h. Contains words (word h b) in
    subst Q upper (is.apart i a b (omega (arith, lt, le)) lt la lb e (subst P (sym upper) has))

pub turn_last : (n : ℕ) (words : List ℕ) (at : ℕ) (old now : Classes) (s t : ℕ) → length words ≤ at → n < 2 ^ 31 → IsUnderTurn n words at old now s t →
    ArePlacesSplit n words old.labels.items now.labels.items
turn_last n words at old now s t le few is = record {
  apart = λ k a b la lb e has. split_at n words at old now s t le few is k a b la lb e has has;
  together = is.together;
}
