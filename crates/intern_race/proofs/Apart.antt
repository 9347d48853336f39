-- Two slots that hold equal texts are one, so what a view knows of slots tells equal texts from others.
use Rattle.std.proofs.Common.{◌≡◌, ◌≢◌, ℕ, ◌<◌, ◌≤◌, List, ◌++◌, length, get_or, Contains, sym, ap, ◌∙◌, subst, ⊎_elim, arith}
use Rattle.std.proofs.lemmas.Bool.{cases_lt}
use Rattle.std.proofs.lemmas.List.Elements.{Contains-append_cases}
use Rattle.intern_race.specs.declared.rule.Pair.{Pair}
use Rattle.intern_race.specs.declared.rule.View.{View}
use Rattle.intern_race.specs.Interning.{AreApart}
use Rattle.intern_race.specs.Rule.{Fits}
use Rattle.intern_race.specs.Slots.{AreSlots, IsHeld, IsInPlace, IsOther, holder, none, slot_on}
use Rattle.intern_race.specs.Texts.{text_at}

-- a search for a text passes no slot that holds an equal one
passes : (texts : List (List ℕ)) (ws : List ℕ) (k m n : ℕ) (one : IsInPlace texts ws k (holder (get_or ws k 0))) (two : IsInPlace texts ws m n)
    → text_at texts (holder (get_or ws k 0)) ≡ text_at texts n → one.far < two.far → ⊥
passes texts ws k m n one two equal lt =
    let At : List ℕ → Type 0 = λ text. slot_on (length ws) text one.far ≡ k in
    let here : slot_on (length ws) (text_at texts n) one.far ≡ k = subst At equal one.ends in
    let Other : ℕ → Type 0 = λ j. IsOther texts ws j (text_at texts n) in
    let o = subst Other here (two.passed one.far lt) in
    o.other equal

pub two_places : (texts : List (List ℕ)) (ws : List ℕ) (k m : ℕ) → IsInPlace texts ws k (holder (get_or ws k 0)) → IsInPlace texts ws m (holder (get_or ws m 0))
    → text_at texts (holder (get_or ws k 0)) ≡ text_at texts (holder (get_or ws m 0)) → k ≡ m
two_places texts ws k m one two equal = ⊎_elim
    (λ (less : one.far < two.far). absurd (passes texts ws k m (holder (get_or ws m 0)) one two equal less))
    (λ (from : two.far ≤ one.far). ⊎_elim
    (λ (more : two.far < one.far). absurd (passes texts ws m k (holder (get_or ws k 0)) two one (sym equal) more))
    (λ (to : one.far ≤ two.far).
    let same : one.far ≡ two.far = omega (arith, from, to) in
    let At : List ℕ → ℕ → Type 0 = λ text far. slot_on (length ws) text far ≡ k in
    let here : At (text_at texts (holder (get_or ws m 0))) two.far = subst (At (text_at texts (holder (get_or ws m 0)))) same (subst (λ text. At text one.far) equal one.ends) in
    sym here ∙ two.ends)
    (cases_lt two.far one.far))
    (cases_lt one.far two.far)

-- a slot holds a text equal to this one
pub record Knows (texts : List (List ℕ)) (ws : List ℕ) (p : Pair) : Type 0 where
  pub within : p.slot < length ws
  pub number : p.text < length texts
  pub place : IsInPlace texts ws p.slot (holder (get_or ws p.slot 0))
  pub equal : text_at texts (holder (get_or ws p.slot 0)) ≡ text_at texts p.text

-- a filled slot's text stands in its place
pub in_place : (texts : List (List ℕ)) (ws : List ℕ) (k : ℕ) → k < length ws → get_or ws k 0 ≢ none → AreSlots texts ws → IsInPlace texts ws k (holder (get_or ws k 0))
in_place texts ws k lt filled slots = ⊎_elim
    (λ (empty : get_or ws k 0 ≡ none). absurd (filled empty))
    (λ (held : IsHeld texts ws k (get_or ws k 0)). held.place)
    (slots k lt)

pub knows : (texts : List (List ℕ)) (ws : List ℕ) (v : View) (p : Pair) → AreSlots texts ws → Fits texts ws v → Contains (v.seen ++ v.placed) p → Knows texts ws p
knows texts ws v p slots f has = ⊎_elim
    (λ (on : Contains v.seen p).
    let stands = f.seen p on in
    let place = in_place texts ws p.slot stands.within stands.holds.filled slots in
    let Below : ℕ → Type 0 = λ n. n < length texts in record {
      within = stands.within;
      number = subst Below stands.holds.holds place.within;
      place = place;
      equal = ap (text_at texts) stands.holds.holds;
    })
    (λ (on : Contains v.placed p).
    let is = f.placed p on in record {
      within = is.within;
      number = is.number;
      place = in_place texts ws p.slot is.within is.filled slots;
      equal = is.equal;
    })
    (Contains-append_cases v.seen v.placed p has)

pub apart_now : (texts : List (List ℕ)) (ws : List ℕ) (v : View) → AreSlots texts ws → Fits texts ws v → AreApart texts (v.seen ++ v.placed)
apart_now texts ws v slots f = record {
  within = λ p has. (knows texts ws v p slots f has).number;
  apart = λ p q has its.
      let one = knows texts ws v p slots f has in
      let two = knows texts ws v q slots f its in (
        λ (same : p.slot ≡ q.slot). sym one.equal ∙ ap (λ k. text_at texts (holder (get_or ws k 0))) same ∙ two.equal,
        λ (equal : text_at texts p.text ≡ text_at texts q.text). two_places texts ws p.slot q.slot one.place two.place (one.equal ∙ equal ∙ sym two.equal),
      );
}
