-- A seat stays one that callers have, and what a step tells it is told of what callers see.
use Rattle.std.proofs.Common.{◌≡◌, ℕ, ◌+◌, ◌≤◌, ◌<◌, true, List, [], ◌∷◌, ◌++◌, length, Contains, refl, sym, ap, ◌∙◌, subst, arith}
use Rattle.std.specs.Prelude.{Bool}
use Rattle.std.specs.Str.{bytes_eq}
use Rattle.std.proofs.lemmas.List.Elements.{Contains-append_right}
use Rattle.std.proofs.lemmas.Slice.Eq.{bytes_eq-Decides}
use Rattle.atomic_table.specs.Seated.{TableId}
use Rattle.atomic_table.specs.declared.shared.Seat.{Seat}
use Rattle.intern_race.specs.declared.rule.OwnStep.{OwnStep}
use Rattle.intern_race.specs.declared.rule.Pair.{Pair}
use Rattle.intern_race.specs.declared.rule.View.{View}
use Rattle.intern_race.specs.Interning.{AreApart, HasPlaced, IsLeastOf, SeatView, TableView, after_steps, known, pair}
use Rattle.intern_race.specs.Rule.{IsSeated, IsWordOf, Seated, Tells, TellsApart, seen, view_after, view_after_split, view_joined}
use Rattle.intern_race.specs.Hash.{hash_of}
use Rattle.intern_race.specs.Slots.{least, slot_on}
use Rattle.intern_race.specs.Texts.{text_at}
use Rattle.intern_race.specs.Visits.{CanFill}
use Rattle.intern_race.proofs.Keeps.{IsWay}
use Rattle.std.proofs.lemmas.Nat.{mod_below}

abbrev IsApart : View → Type 0
IsApart v = AreApart v.texts (v.seen ++ v.placed)

pub seated-after : (m m' : Seated) (st : OwnStep) → IsSeated m → Tells m st m' → IsSeated m'
seated-after m m' st seated told =
    let Is : View → Type 0 = λ v. (v.live ≡ true) × (v.texts ≡ m.0.texts) in
    let after = subst Is (sym told.view) (seated.live, refl) in
    let On : List (List ℕ) → Type 0 = λ ts. AreApart ts (m'.0.seen ++ m'.0.placed) in
    record { live = after.0; slots = told.slots ∙ seated.slots; apart = subst On (sym after.1) told.apart }

pub seated-split : (m m' : Seated) → IsSeated m → m' ≡ (view_after_split m.0, m.1) → IsSeated m'
seated-split m m' seated same =
    let after : IsSeated (view_after_split m.0, m.1) = record { live = seated.live; slots = seated.slots; apart = seated.apart } in
    subst IsSeated (sym same) after

-- after a join and a load that tells what both seats know
pub seated-joined : (m w mid m' : Seated) → IsSeated m → mid ≡ (view_joined m.0 w.0, m.1) → TellsApart mid m' → IsSeated m'
seated-joined m w mid m' seated same told =
    let Is : Seated → Type 0 = λ x. (x.0.live ≡ true) × (x.1 ≡ []) in
    let there : Is mid = subst Is (sym same) (seated.live, seated.slots) in
    let done : Is m' = subst Is (sym told.same) there in
    let On : Seated → Type 0 = λ x. IsApart x.0 in
    record { live = done.0; slots = done.1; apart = subst On (sym told.same) told.apart }

-- a word that was found is a number that the slot may give
pub least_seen : (v : View) (s : SeatView) (slot word : ℕ) → IsWordOf v slot word → s.texts ≡ v.texts → s.placed ≡ v.placed → IsLeastOf s slot (least word)
least_seen v s slot word found texts placed i has =
    let On : List Pair → Type 0 = λ l. Contains l (pair slot i) in
    let Of : List (List ℕ) → Type 0 = λ ts. (least word < length ts) × (text_at ts (least word) ≡ text_at ts i) × (least word ≤ i) in
    subst Of (sym texts) (found (pair slot i) (subst On placed has) refl)

-- what callers know of the way to a slot is what the view knows
pub way_of : (t : TableView) (s : SeatView) (v : View) (slots : ℕ) (texts : List (List ℕ)) (i n slot : ℕ) → t.slots ≡ slots → t.texts ≡ texts → s.seen ≡ v.seen → n ≡ i
    → CanFill t s (text_at t.texts i) slot → IsWay slots texts v.seen (text_at texts n) slot
way_of t s v slots texts i n slot count are is_seen is can =
    let One : ℕ → List (List ℕ) → List Pair → ℕ → Type 0 = λ c ts l k. IsWay c ts l (text_at ts k) slot in
    let first : One t.slots t.texts s.seen i = record { far = can.far; short = can.short; ends = can.ends; passed = can.passed } in
    let second : One slots t.texts s.seen i = subst (λ c. One c t.texts s.seen i) count first in
    let third : One slots texts s.seen i = subst (λ ts. One slots ts s.seen i) are second in
    let fourth : One slots texts v.seen i = subst (λ l. One slots texts l i) is_seen third in
    subst (λ k. One slots texts v.seen k) (sym is) fourth

-- a slot that a search meets is there
pub slot_within : (slots : ℕ) (text : List ℕ) (far slot : ℕ) → 0 < slots → slot_on slots text far ≡ slot → slot < slots
unfolding slot_on
slot_within slots text far slot some is = let below = mod_below (hash_of text + far) slots some in omega (arith, is, below)

-- a step as callers see it
abbrev shape : TableId → View → SeatView
shape t v = record { table = t; texts = v.texts; seen = v.seen; placed = v.placed; steps = v.steps; share = v.share }

pub shown_after : (old new : Seat (Unit {0}) View) (s : SeatView) (st : OwnStep) → new.table_id ≡ old.table_id → new.me.0 ≡ view_after old.me.0 st → seen old ≡ s → seen new ≡ after_steps s (st ∷ [])
shown_after old new s st same is shows = ap (λ t. shape t new.me.0) same ∙ ap (shape old.table_id) is ∙ ap (λ x. after_steps x (st ∷ [])) shows

-- what a seat knows is so, as callers see it
pub apart_of : (seat : Seat (Unit {0}) View) (s : SeatView) (texts : List (List ℕ)) → IsSeated seat.me → seen seat ≡ s → s.texts ≡ texts → AreApart texts (known s)
apart_of seat s texts seated is are =
    let On : SeatView → Type 0 = λ x. AreApart x.texts (known x) in
    let here : On (seen seat) = seated.apart in
    let Of : List (List ℕ) → Type 0 = λ ts. AreApart ts (known s) in
    subst Of are (subst On is here)

-- a placed text is there
pub placed_number : (texts : List (List ℕ)) (s : SeatView) (i : ℕ) → AreApart texts (known s) → HasPlaced s i → i < length texts
placed_number texts s i apart has = apart.within (pair has.0 i) (Contains-append_right s.seen s.placed (pair has.0 i) has.1)

-- slots of placed texts are one exactly where the texts are equal
pub placed_apart : (texts : List (List ℕ)) (s : SeatView) (k l i j : ℕ) (b : Bool) → AreApart texts (known s) → Contains s.placed (pair k i) → Contains s.placed (pair l j)
    → b ≡ bytes_eq (text_at texts i) (text_at texts j) → (b ≡ true → k ≡ l) × (k ≡ l → b ≡ true)
placed_apart texts s k l i j b apart one two is =
    let d = bytes_eq-Decides (text_at texts i) (text_at texts j) in
    let both = apart.apart (pair k i) (pair l j) (Contains-append_right s.seen s.placed (pair k i) one) (Contains-append_right s.seen s.placed (pair l j) two) in
    ((λ yes. both.1 (d.0 (sym is ∙ yes))), (λ same. is ∙ d.1 (both.0 same)))
