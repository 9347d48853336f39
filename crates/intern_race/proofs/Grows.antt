-- What stands in the words stands for ever: a filled slot holds its text, and its least number only falls.
use Rattle.std.proofs.Common.{◌≡◌, ◌≢◌, ℕ, ◌<◌, ◌≤◌, ◌⊎◌, inl, inr, List, length, get_or, refl, sym, ap, ◌∙◌, subst, ⊎_elim, arith}
use Rattle.std.proofs.lemmas.Bool.{cases_eq}
use Rattle.intern_race.specs.declared.rule.Pair.{Pair}
use Rattle.intern_race.specs.declared.rule.View.{View}
use Rattle.intern_race.specs.Rule.{Fits, IsPlaced, Stands}
use Rattle.intern_race.specs.Slots.{AreSlots, IsHeld, IsInPlace, IsOther, holder, least, none, slot_on}
use Rattle.intern_race.specs.Texts.{text_at}

-- a filled slot's word, and the one it becomes
pub record GoesOn (w u : ℕ) : Type 0 where
  pub filled : u ≢ none
  pub same : holder u ≡ holder w
  pub falls : least u ≤ least w

pub record Grows (ws us : List ℕ) : Type 0 where
  pub long : length us ≡ length ws
  pub each : (k : ℕ) → k < length ws → get_or ws k 0 ≢ none → GoesOn (get_or ws k 0) (get_or us k 0)

pub other_grows : (texts : List (List ℕ)) (ws us : List ℕ) (k : ℕ) (text : List ℕ) → Grows ws us → IsOther texts ws k text → IsOther texts us k text
other_grows texts ws us k text grows o =
    let on = grows.each k o.within o.filled in
    let long = grows.long in
    let within = o.within in record {
      within = omega (arith, long, within);
      filled = on.filled;
      other = λ e. o.other (ap (text_at texts) (sym on.same) ∙ e);
    }

pub stands_grows : (ws us : List ℕ) (p : Pair) → Grows ws us → Stands ws p → Stands us p
stands_grows ws us p grows stands =
    let on = grows.each p.slot stands.within stands.holds.filled in
    let long = grows.long in
    let within = stands.within in record {
      within = omega (arith, long, within);
      holds = record { filled = on.filled; holds = on.same ∙ stands.holds.holds };
    }

pub placed_grows : (texts : List (List ℕ)) (ws us : List ℕ) (p : Pair) → Grows ws us → IsPlaced texts ws p → IsPlaced texts us p
placed_grows texts ws us p grows is =
    let on = grows.each p.slot is.within is.filled in
    let long = grows.long in
    let within = is.within in
    let most = is.most in
    let falls = on.falls in record {
      within = omega (arith, long, within);
      number = is.number;
      filled = on.filled;
      equal = ap (text_at texts) on.same ∙ is.equal;
      most = omega (arith, most, falls);
    }

pub fits_grows : (texts : List (List ℕ)) (ws us : List ℕ) (v : View) → Grows ws us → Fits texts ws v → Fits texts us v
fits_grows texts ws us v grows f = record {
  one_list = f.one_list;
  seen = λ p has. stands_grows ws us p grows (f.seen p has);
  placed = λ p has. placed_grows texts ws us p grows (f.placed p has);
}

pub place_grows : (texts : List (List ℕ)) (ws us : List ℕ) (k n : ℕ) → Grows ws us → IsInPlace texts ws k n → IsInPlace texts us k n
place_grows texts ws us k n grows is =
    let text = text_at texts n in
    let same : length ws ≡ length us = sym grows.long in
    let short = is.short in
    let Ends : ℕ → Type 0 = λ l. slot_on l text is.far ≡ k in
    let Passed : ℕ → Type 0 = λ l. (e : ℕ) → e < is.far → IsOther texts us (slot_on l text e) text in record {
      within = is.within;
      far = is.far;
      short = omega (arith, same, short);
      ends = subst Ends same is.ends;
      passed = subst Passed same (λ e lt. other_grows texts ws us (slot_on (length ws) text e) text grows (is.passed e lt));
    }

-- all slots, where one of them changes
pub slots_grow : (texts : List (List ℕ)) (ws us : List ℕ) (k : ℕ) → Grows ws us → ((j : ℕ) → j ≢ k → get_or us j 0 ≡ get_or ws j 0)
    → ((get_or us k 0 ≡ none) ⊎ IsHeld texts us k (get_or us k 0)) → AreSlots texts ws → AreSlots texts us
slots_grow texts ws us k grows others here slots j lt =
    let long = grows.long in
    let Is : ℕ → Type 0 = λ w. (w ≡ none) ⊎ IsHeld texts us j w in
    ⊎_elim
    (λ (at : j ≡ k). let At : ℕ → Type 0 = λ n. (get_or us n 0 ≡ none) ⊎ IsHeld texts us n (get_or us n 0) in subst At (sym at) here)
    (λ (ne : j ≢ k). subst Is (sym (others j ne)) (⊎_elim
    (λ (empty : get_or ws j 0 ≡ none). inl empty)
    (λ (held : IsHeld texts ws j (get_or ws j 0)). inr (record { place = place_grows texts ws us j (holder (get_or ws j 0)) grows held.place; equal = held.equal }))
    (slots j (omega (arith, long, lt)))))
    (cases_eq j k)

-- one word changes: from an empty one, or to one that holds the same text
pub grows_at : (ws us : List ℕ) (k : ℕ) → length us ≡ length ws → ((j : ℕ) → j ≢ k → get_or us j 0 ≡ get_or ws j 0) → (get_or ws k 0 ≢ none → GoesOn (get_or ws k 0) (get_or us k 0)) → Grows ws us
grows_at ws us k long others here = record {
  long = long;
  each = λ j lt filled. ⊎_elim
      (λ (at : j ≡ k).
      let At : ℕ → Type 0 = λ n. get_or ws n 0 ≢ none → GoesOn (get_or ws n 0) (get_or us n 0) in
      subst At (sym at) here filled)
      (λ (ne : j ≢ k).
      let On : ℕ → Type 0 = λ u. GoesOn (get_or ws j 0) u in
      subst On (sym (others j ne)) (record { filled = filled; same = refl; falls = omega arith }))
      (cases_eq j k);
}
