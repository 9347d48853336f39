-- Each step on a text table keeps its rule.
use Rattle.std.proofs.Common.{◌≡◌, ◌≢◌, ℕ, ◌^◌, ◌<◌, ◌≤◌, ◌⊎◌, inl, inr, true, List, [], ◌∷◌, ◌++◌, length, flat_map, min, get_or, set, replicate, Contains, refl, sym, ap, ◌∙◌, subst, ⊎_elim, arith}
use Rattle.std.proofs.lemmas.List.{length-set, length-replicate, get_or-replicate, get_or-set_same, get_or-set_other, set-get_or}
use Rattle.std.proofs.lemmas.List.Elements.{Contains-append_cases, Contains-append_left, Contains-append_right, Contains-push}
use Rattle.std.proofs.lemmas.Bool.{cases_eq}
use mathlib.Core.Option.{none as no_value, some}
use lib.ListN.{get_elem?}
use prog.Atomic.{either}
use Rattle.atomic_table.specs.Table.{State, step, keeps, opening, Allows, Splits, Joins}
use Rattle.atomic_table.proofs.Lists.{exchanged, set_again}
use Rattle.std.specs.Prelude.{◌==◌}
use Rattle.intern_race.specs.declared.rule.OwnStep.{OwnStep}
use Rattle.intern_race.specs.declared.rule.OwnStep.TheVariants.{Loaded, Tried, Lowered, SplitOff}
use Rattle.intern_race.specs.declared.rule.Pair.{Pair}
use Rattle.intern_race.specs.declared.rule.View.{View}
use Rattle.intern_race.specs.Interning.{AreApart, IsPassed, pair, placed_by, seen_by}
use Rattle.intern_race.specs.Rule.{EachIsOwned, Fits, HasFilled, HasOffered, IsOwned, IsPlaced, IsWordOf, Kept, Seated, Stands, TellsApart, TellsLoad, TellsLower, TellsTry}
use Rattle.intern_race.specs.Rule.{founder, is_live, share_of, view_after, view_after_split, view_joined, view_spent, view_split}
use Rattle.intern_race.specs.Slots.{HasEqual, IsHeld, IsInPlace, IsOther, holder, least, none, slot_on}
use Rattle.intern_race.specs.Texts.{text_at}
use Rattle.intern_race.proofs.Apart.{apart_now, in_place}
use Rattle.intern_race.proofs.Grows.{GoesOn, fits_grows, grows_at, other_grows, place_grows, slots_grow}
use Rattle.intern_race.proofs.Shown.{placed_lowered, seen_loaded, seen_tried}
use Rattle.intern_race.proofs.Words.{held_is_filled, lesser_cases}
use Rattle.seat_views.proofs.EachViews.{each_first, each_join, each_split, each_step}
use Rattle.seat_views.proofs.Places.{other_view, set_there}
use Rattle.seat_views.proofs.SomeViews.{some_here, some_join, some_split, some_step}
use Rattle.seat_views.proofs.Wholes.{whole_first, whole_join, whole_split, whole_step}
use Rattle.seat_views.specs.Views.{SomeView}

abbrev Table : Type 0
Table = State (Unit {0}) View

-- what the views own goes over to others
pub record Moves (old new : List View) : Type 0 where
  pub filled : (k n : ℕ) → SomeView is_live (HasFilled k n) old → SomeView is_live (HasFilled k n) new
  pub offered : (k n : ℕ) → SomeView is_live (HasOffered k n) old → SomeView is_live (HasOffered k n) new

filled-left : (k n : ℕ) (steps more : List OwnStep) → Contains steps (Tried k n none) → Contains (steps ++ more) (Tried k n none)
filled-left k n steps more has = Contains-append_left steps more (Tried k n none) has

abbrev Offers : List OwnStep → ℕ → ℕ → Type 0
Offers steps k n = (found : ℕ) × Contains steps (Lowered k n found)

offered-left : (k n : ℕ) (steps more : List OwnStep) → Offers steps k n → Offers (steps ++ more) k n
offered-left k n steps more has = (has.0, Contains-append_left steps more (Lowered k n has.0) has.1)

offered-right : (k n : ℕ) (steps more : List OwnStep) → Offers more k n → Offers (steps ++ more) k n
offered-right k n steps more has = (has.0, Contains-append_right steps more (Lowered k n has.0) has.1)

owned_moves : (old new : List View) (k w : ℕ) → Moves old new → IsOwned old k w → IsOwned new k w
owned_moves old new k w moves owned = record {
  filled = moves.filled k (holder w) owned.filled;
  offered = ⊎_elim
      (λ (own : least w ≡ holder w). inl own)
      (λ (has : SomeView is_live (HasOffered k (least w)) old). inr (moves.offered k (least w) has))
      owned.offered;
}

-- all words, where one of them changes
owned_at : (old new : List View) (ws us : List ℕ) (k : ℕ) → Moves old new → length us ≡ length ws → ((j : ℕ) → j ≢ k → get_or us j 0 ≡ get_or ws j 0)
    → ((get_or us k 0 ≡ none) ⊎ IsOwned new k (get_or us k 0)) → EachIsOwned old ws → EachIsOwned new us
owned_at old new ws us k moves long others here each j lt =
    let Is : ℕ → Type 0 = λ w. (w ≡ none) ⊎ IsOwned new j w in
    ⊎_elim
    (λ (at : j ≡ k). let At : ℕ → Type 0 = λ n. (get_or us n 0 ≡ none) ⊎ IsOwned new n (get_or us n 0) in subst At (sym at) here)
    (λ (ne : j ≢ k). subst Is (sym (others j ne)) (⊎_elim
    (λ (empty : get_or ws j 0 ≡ none). inl empty)
    (λ (owned : IsOwned old j (get_or ws j 0)). inr (owned_moves old new j (get_or ws j 0) moves owned))
    (each j (omega (arith, long, lt)))))
    (cases_eq j k)

owned_stays : (old new : List View) (ws : List ℕ) → Moves old new → EachIsOwned old ws → EachIsOwned new ws
owned_stays old new ws moves each j lt = ⊎_elim
    (λ (empty : get_or ws j 0 ≡ none). inl empty)
    (λ (owned : IsOwned old j (get_or ws j 0)). inr (owned_moves old new j (get_or ws j 0) moves owned))
    (each j lt)

moves_step : (views : List View) (id : ℕ) (v : View) (st : OwnStep) → get_elem? views id ≡ some v → v.live ≡ true → Moves views (set views id (view_after v st))
moves_step views id v st at live = record {
  filled = λ k n. some_step is_live (HasFilled k n) views id v (view_after v st) at live (filled-left k n v.steps (st ∷ []));
  offered = λ k n. some_step is_live (HasOffered k n) views id v (view_after v st) at live (offered-left k n v.steps (st ∷ []));
}

-- what a step shows and places fits the words after it
Fits-after : (texts : List (List ℕ)) (us : List ℕ) (v : View) (st : OwnStep) → ((p : Pair) → Contains (flat_map seen_by (st ∷ [])) p → Stands us p)
    → ((p : Pair) → Contains (flat_map placed_by (st ∷ [])) p → IsPlaced texts us p) → Fits texts us v → Fits texts us (view_after v st)
Fits-after texts us v st shows places f = record {
  one_list = f.one_list;
  seen = λ p has. ⊎_elim
      (λ (old : Contains v.seen p). f.seen p old)
      (λ (new : Contains (flat_map seen_by (st ∷ [])) p). shows p new)
      (Contains-append_cases v.seen (flat_map seen_by (st ∷ [])) p has);
  placed = λ p has. ⊎_elim
      (λ (old : Contains v.placed p). f.placed p old)
      (λ (new : Contains (flat_map placed_by (st ∷ [])) p). places p new)
      (Contains-append_cases v.placed (flat_map placed_by (st ∷ [])) p has);
}

-- a step at a slot, which stays as it was, is filled, or has a lesser number
record IsStep (texts : List (List ℕ)) (s : Table) (us : List ℕ) (id : ℕ) (v : View) (st : OwnStep) (k : ℕ) : Type 0 where
  pub long : length us ≡ length s.words
  pub others : (j : ℕ) → j ≢ k → get_or us j 0 ≡ get_or s.words j 0
  pub on : get_or s.words k 0 ≢ none → GoesOn (get_or s.words k 0) (get_or us k 0)
  pub held : (get_or us k 0 ≡ none) ⊎ IsHeld texts us k (get_or us k 0)
  pub owned : (get_or us k 0 ≡ none) ⊎ IsOwned (set s.views id (view_after v st)) k (get_or us k 0)
  pub shows : (p : Pair) → Contains (flat_map seen_by (st ∷ [])) p → Stands us p
  pub places : (p : Pair) → Contains (flat_map placed_by (st ∷ [])) p → IsPlaced texts us p

step_keeps : (slots : ℕ) (texts : List (List ℕ)) (s : Table) (us : List ℕ) (id : ℕ) (v : View) (st : OwnStep) (k : ℕ) → get_elem? s.views id ≡ some v → v.live ≡ true → Kept slots texts s
    → IsStep texts s us id v st k → Kept slots texts (record { words = us; homes = s.homes; views = set s.views id (view_after v st) })
step_keeps slots texts s us id v st k at live r is =
    let grows = grows_at s.words us k is.long is.others is.on in record {
      wide = is.long ∙ r.wide;
      held = slots_grow texts s.words us k grows is.others is.held r.held;
      owned = owned_at s.views (set s.views id (view_after v st)) s.words us k (moves_step s.views id v st at live) is.long is.others is.owned r.owned;
      each = each_step is_live (Fits texts s.words) (Fits texts us) s.views id (view_after v st) (λ u f. fits_grows texts s.words us u grows f)
          (λ _. Fits-after texts us v st is.shows is.places (fits_grows texts s.words us v grows (r.each id v at live))) r.each;
      shares = whole_step is_live share_of s.views id v (view_after v st) at live live refl r.shares;
    }

-- what a seat knows after it
apart_after : (slots : ℕ) (texts : List (List ℕ)) (s : Table) (us : List ℕ) (id : ℕ) (v : View) (st : OwnStep) → get_elem? s.views id ≡ some v → v.live ≡ true → v.texts ≡ texts
    → Kept slots texts (record { words = us; homes = s.homes; views = set s.views id (view_after v st) }) → AreApart v.texts ((view_after v st).seen ++ (view_after v st).placed)
apart_after slots texts s us id v st at live same r =
    let w : View = view_after v st in
    let f : Fits texts us w = r.each id w (set_there s.views id v w at) live in
    let Is : List (List ℕ) → Type 0 = λ ts. AreApart ts (w.seen ++ w.placed) in
    subst Is (sym same) (apart_now texts us w r.held f)

-- a step that leaves its slot as it was
looks : (slots : ℕ) (texts : List (List ℕ)) (s : Table) (id : ℕ) (v : View) (st : OwnStep) (k : ℕ) → k < slots → get_elem? s.views id ≡ some v → v.live ≡ true → Kept slots texts s
    → ((p : Pair) → Contains (flat_map seen_by (st ∷ [])) p → Stands s.words p) → ((p : Pair) → Contains (flat_map placed_by (st ∷ [])) p → IsPlaced texts s.words p)
    → IsStep texts s s.words id v st k
looks slots texts s id v st k lt at live r shows places =
    let wide = r.wide in
    let here : k < length s.words = omega (arith, wide, lt) in record {
      long = refl;
      others = λ j ne. refl;
      on = λ filled. record { filled = filled; same = refl; falls = omega arith };
      held = r.held k here;
      owned = owned_stays s.views (set s.views id (view_after v st)) s.words (moves_step s.views id v st at live) r.owned k here;
      shows = shows;
      places = places;
    }

-- what a load finds of the texts that are placed there
finds : (slots : ℕ) (texts : List (List ℕ)) (s : Table) (v : View) (k : ℕ) → Kept slots texts s → Fits texts s.words v → IsWordOf v k (get_or s.words k 0)
finds slots texts s v k r f p has at =
    let is = f.placed p has in
    let x : ℕ = get_or s.words k 0 in
    let At : ℕ → Type 0 = λ j. (j < length s.words) × (get_or s.words j 0 ≢ none) × (text_at texts (holder (get_or s.words j 0)) ≡ text_at texts p.text) × (least (get_or s.words j 0) ≤ p.text) in
    let here = subst At at (is.within, is.filled, is.equal, is.most) in
    let most = here.3 in
    let Of : List (List ℕ) → Type 0 = λ ts. (least x < length ts) × (text_at ts (least x) ≡ text_at ts p.text) × (least x ≤ p.text) in
    subst Of (sym f.one_list) (⊎_elim
    (λ (empty : x ≡ none). absurd (here.1 empty))
    (λ (held : IsHeld texts s.words k x). let has = held.equal in (has.0, has.1 ∙ here.2, most))
    (r.held k here.0))

no_places : (texts : List (List ℕ)) (ws : List ℕ) (p : Pair) → Contains [] p → IsPlaced texts ws p
no_places texts ws p has = let lt = has.1 in absurd (omega (arith, lt))

-- a load writes the word as it was
pub load_keeps : (slots own id : ℕ) (texts : List (List ℕ)) (me : Seated) (k : ℕ) → k < slots → length texts ≤ 2 ^ 31 → me.0.live ≡ true
    → Allows (Kept slots texts) own id me k (λ n. n) (TellsLoad (step own k 0 0 no_value) me)
load_keeps slots own id texts me k lt few live s r wide at small =
    let x : ℕ = get_or s.words k 0 in
    let f = r.each id me.0 at live in
    let st : OwnStep = Loaded k x in
    let w : View = view_after me.0 st in
    let long = r.wide in
    let stands : (p : Pair) → Contains (flat_map seen_by (st ∷ [])) p → Stands s.words p = λ p has.
    let shown = seen_loaded k x p has in
    subst (Stands s.words) shown.1 (record { within = omega (arith, long, lt); holds = record { filled = shown.0; holds = refl } }) in
    let kept = step_keeps slots texts s s.words id me.0 st k at live r (looks slots texts s id me.0 st k lt at live r stands (no_places texts s.words)) in
    let Holding : List ℕ → Type 0 = λ ws. Kept slots texts (record { words = ws; homes = s.homes; views = set s.views id w }) in (
      w,
      keeps,
      tt,
      subst Holding (sym (set-get_or s.words k 0)) kept,
      record {
        step = record { view = refl; slots = refl; apart = apart_after slots texts s s.words id me.0 st at live f.one_list kept };
        finds = finds slots texts s me.0 k r f;
      },
    )

-- a load that is no step
pub learn_keeps : (slots own id : ℕ) (texts : List (List ℕ)) (me : Seated) (k : ℕ) → me.0.live ≡ true
    → Allows (Kept slots texts) own id me k (λ n. n) (λ found m. TellsApart me m)
learn_keeps slots own id texts me k live s r wide at small =
    let f = r.each id me.0 at live in
    let Holding : List ℕ → List View → Type 0 = λ ws views. Kept slots texts (record { words = ws; homes = s.homes; views = views }) in
    let kept : Holding (set s.words k (get_or s.words k 0)) (set s.views id me.0) =
    subst (λ ws. Holding ws (set s.views id me.0)) (sym (set-get_or s.words k 0)) (subst (Holding s.words) (sym (set_again s.views id me.0 at)) r) in
    let Is : List (List ℕ) → Type 0 = λ ts. AreApart ts (me.0.seen ++ me.0.placed) in (
      me.0,
      keeps,
      tt,
      kept,
      record { same = refl; apart = subst Is (sym f.one_list) (apart_now texts s.words me.0 r.held f) },
    )

-- what was seen on the way to a slot stands
way : (texts : List (List ℕ)) (ws : List ℕ) (v : View) (text : List ℕ) (k : ℕ) → Fits texts ws v → IsPassed texts v.seen k text → IsOther texts ws k text
way texts ws v text k f passed =
    let stands = f.seen (pair k passed.0) passed.1 in record {
      within = stands.within;
      filled = stands.holds.filled;
      other = λ e. passed.2 (ap (text_at texts) (sym stands.holds.holds) ∙ e);
    }

-- the way of a search for a text to a slot, as a seat has seen it
pub record IsWay (slots : ℕ) (texts : List (List ℕ)) (seen : List Pair) (text : List ℕ) (k : ℕ) : Type 0 where
  pub far : ℕ
  pub short : far < slots
  pub ends : slot_on slots text far ≡ k
  pub passed : (e : ℕ) → e < far → IsPassed texts seen (slot_on slots text e) text

-- an empty slot is filled with a word
fills : (slots : ℕ) (texts : List (List ℕ)) (s : Table) (id : ℕ) (v : View) (k new x : ℕ) → k < slots → length texts ≤ 2 ^ 31 → get_elem? s.views id ≡ some v → v.live ≡ true → Kept slots texts s
    → least new ≡ holder new → holder new < length texts → IsWay slots texts v.seen (text_at texts (holder new)) k → get_or s.words k 0 ≡ none → x ≡ none
    → IsStep texts s (set s.words k new) id v (Tried k (holder new) x) k
fills slots texts s id v k new x lt few at live r own_number number seen_way empty is =
    let us : List ℕ = set s.words k new in
    let st : OwnStep = Tried k (holder new) x in
    let w : View = view_after v st in
    let f = r.each id v at live in
    let long = r.wide in
    let here : k < length s.words = omega (arith, long, lt) in
    let now : get_or us k 0 ≡ new = get_or-set_same s.words k new 0 here in
    let others : (j : ℕ) → j ≢ k → get_or us j 0 ≡ get_or s.words j 0 = λ j ne. get_or-set_other s.words k j new 0 ne in
    let on : get_or s.words k 0 ≢ none → GoesOn (get_or s.words k 0) (get_or us k 0) = λ filled. absurd (filled empty) in
    let grows = grows_at s.words us k (length-set s.words k new) others on in
    let filled : new ≢ none = held_is_filled new (omega (arith, number, few)) in
    let text = text_at texts (holder new) in
    let wide : length us ≡ slots = length-set s.words k new ∙ r.wide in
    let short = seen_way.short in
    let Ends : ℕ → Type 0 = λ l. slot_on l text seen_way.far ≡ k in
    let Passed : ℕ → Type 0 = λ l. (e : ℕ) → e < seen_way.far → IsOther texts us (slot_on l text e) text in
    let place : IsInPlace texts us k (holder new) = record {
      within = number;
      far = seen_way.far;
      short = omega (arith, wide, short);
      ends = subst Ends (sym wide) seen_way.ends;
      passed = subst Passed (sym wide) (λ e less. other_grows texts s.words us (slot_on slots text e) text grows (way texts s.words v text (slot_on slots text e) f (seen_way.passed e less)));
    } in
    let Held : ℕ → Type 0 = λ n. (n ≡ none) ⊎ IsHeld texts us k n in
    let Owned : ℕ → Type 0 = λ n. (n ≡ none) ⊎ IsOwned (set s.views id w) k n in
    let Tries : ℕ → Type 0 = λ n. Contains (v.steps ++ st ∷ []) (Tried k (holder new) n) in
    let own : SomeView is_live (HasFilled k (holder new)) (set s.views id w) =
    some_here is_live (HasFilled k (holder new)) s.views id v w at live (subst Tries is (Contains-push v.steps st)) in
    let Stand : ℕ → Type 0 = λ n. (n ≢ none) × (holder n ≡ holder new) in
    let stand : Stand (get_or us k 0) = subst Stand (sym now) (filled, refl) in
    let within : k < length us = omega (arith, wide, lt) in
    let at_k : Stands us (pair k (holder new)) = record { within = within; holds = record { filled = stand.0; holds = stand.1 } } in record {
      long = length-set s.words k new;
      others = others;
      on = on;
      held = subst Held (sym now) (inr (record { place = place; equal = (omega (arith, own_number, number), ap (text_at texts) own_number) }));
      owned = subst Owned (sym now) (inr (record { filled = own; offered = inl own_number }));
      shows = λ p has. ⊎_elim
          (λ (fresh : (x ≡ none) × (pair k (holder new) ≡ p)). subst (Stands us) fresh.1 at_k)
          (λ (old : (x ≢ none) × (pair k (holder x) ≡ p)). absurd (old.0 is))
          (seen_tried k (holder new) x p has);
      places = no_places texts us;
    }

-- a try fills an empty slot, or leaves it
pub try_keeps : (slots own id : ℕ) (texts : List (List ℕ)) (me : Seated) (k new : ℕ) → k < slots → length texts ≤ 2 ^ 31 → me.0.live ≡ true
    → least new ≡ holder new → holder new < length texts → IsWay slots texts me.0.seen (text_at texts (holder new)) k
    → Allows (Kept slots texts) own id me k (λ n. either (n == none) new n) (TellsTry (step own k none new no_value) me)
try_keeps slots own id texts me k new lt few live own_number number seen_way s r wide at small =
    let x : ℕ = get_or s.words k 0 in
    let f = r.each id me.0 at live in
    let st : OwnStep = Tried k (holder new) x in
    let w : View = view_after me.0 st in
    let long = r.wide in
    let Goes : ℕ → Type 0 = λ n. Kept slots texts (record { words = set s.words k n; homes = s.homes; views = set s.views id w }) in
    let hit : x ≡ none → Goes new = λ empty.
    step_keeps slots texts s (set s.words k new) id me.0 st k at live r (fills slots texts s id me.0 k new x lt few at live r own_number number seen_way empty empty) in
    let miss : x ≢ none → Goes x = λ filled.
    let stands : (p : Pair) → Contains (flat_map seen_by (st ∷ [])) p → Stands s.words p = λ p has. ⊎_elim
    (λ (fresh : (x ≡ none) × (pair k (holder new) ≡ p)). absurd (filled fresh.0))
    (λ (old : (x ≢ none) × (pair k (holder x) ≡ p)). subst (Stands s.words) old.1 (record { within = omega (arith, long, lt); holds = record { filled = filled; holds = refl } }))
    (seen_tried k (holder new) x p has) in
    let kept = step_keeps slots texts s s.words id me.0 st k at live r (looks slots texts s id me.0 st k lt at live r stands (no_places texts s.words)) in
    let Holding : List ℕ → Type 0 = λ ws. Kept slots texts (record { words = ws; homes = s.homes; views = set s.views id w }) in
    subst Holding (sym (set-get_or s.words k 0)) kept in
    let goes : Goes (either (x == none) new x) = exchanged x none new Goes hit miss in (
      w,
      keeps,
      tt,
      goes,
      record { view = refl; slots = refl; apart = apart_after slots texts s (set s.words k (either (x == none) new x)) id me.0 st at live f.one_list goes },
    )

-- a number is offered to a slot that holds an equal text
lowers : (slots : ℕ) (texts : List (List ℕ)) (s : Table) (id : ℕ) (v : View) (k op m x : ℕ) → k < slots → length texts ≤ 2 ^ 31 → get_elem? s.views id ≡ some v → v.live ≡ true → Kept slots texts s
    → least op < length texts → Contains v.seen (pair k (holder op)) → text_at texts (holder op) ≡ text_at texts (least op)
    → ((m ≡ get_or s.words k 0) × (least (get_or s.words k 0) ≤ least op)) ⊎ ((m ≡ op) × (least op ≤ least (get_or s.words k 0)))
    → IsStep texts s (set s.words k m) id v (Lowered k (least op) x) k
lowers slots texts s id v k op m x lt few at live r number has equal cases =
    let us : List ℕ = set s.words k m in
    let was : ℕ = get_or s.words k 0 in
    let st : OwnStep = Lowered k (least op) x in
    let w : View = view_after v st in
    let f = r.each id v at live in
    let long = r.wide in
    let here : k < length s.words = omega (arith, long, lt) in
    let stands = f.seen (pair k (holder op)) has in
    let now : get_or us k 0 ≡ m = get_or-set_same s.words k m 0 here in
    let others : (j : ℕ) → j ≢ k → get_or us j 0 ≡ get_or s.words j 0 = λ j ne. get_or-set_other s.words k j m 0 ne in
    let place = in_place texts s.words k here stands.holds.filled r.held in
    let old_number = place.within in
    let Below : ℕ → Type 0 = λ n. n < length texts in
    let held_number : holder op < length texts = subst Below stands.holds.holds old_number in
    let On : ℕ → Type 0 = λ n. GoesOn was n in
    let goes_m : GoesOn was m = ⊎_elim
    (λ (stays : (m ≡ was) × (least was ≤ least op)). subst On (sym stays.0) (record { filled = stands.holds.filled; same = refl; falls = omega arith }))
    (λ (falls : (m ≡ op) × (least op ≤ least was)). subst On (sym falls.0) (record { filled = held_is_filled op (omega (arith, held_number, few)); same = sym stands.holds.holds; falls = falls.1 }))
    cases in
    let on : get_or s.words k 0 ≢ none → GoesOn (get_or s.words k 0) (get_or us k 0) = λ filled. subst On (sym now) goes_m in
    let grows = grows_at s.words us k (length-set s.words k m) others on in
    let moves = moves_step s.views id v st at live in
    let views : List View = set s.views id w in
    let Same : ℕ → Type 0 = λ n. HasEqual texts n × IsOwned views k n in
    let before : Same was = ⊎_elim
    (λ (empty : was ≡ none). absurd (stands.holds.filled empty))
    (λ (owned : IsOwned s.views k was). ⊎_elim
    (λ (empty : was ≡ none). absurd (stands.holds.filled empty))
    (λ (held : IsHeld texts s.words k was). (held.equal, owned_moves s.views views k was moves owned))
    (r.held k here))
    (r.owned k here) in
    let Filled : ℕ → Type 0 = λ n. SomeView is_live (HasFilled k n) views in
    let own : SomeView is_live (HasOffered k (least op)) views =
    some_here is_live (HasOffered k (least op)) s.views id v w at live (x, Contains-push v.steps st) in
    let after : Same m = ⊎_elim
    (λ (stays : (m ≡ was) × (least was ≤ least op)). subst Same (sym stays.0) before)
    (λ (falls : (m ≡ op) × (least op ≤ least was)). subst Same (sym falls.0) (
      (number, sym equal),
      record { filled = subst Filled stands.holds.holds before.1.filled; offered = inr own },
    ))
    cases in
    let most : least m ≤ least op = ⊎_elim
    (λ (stays : (m ≡ was) × (least was ≤ least op)). let Low : ℕ → Type 0 = λ n. least n ≤ least op in subst Low (sym stays.0) stays.1)
    (λ (falls : (m ≡ op) × (least op ≤ least was)). let Low : ℕ → Type 0 = λ n. least n ≤ least op in subst Low (sym falls.0) (omega arith))
    cases in
    let Held : ℕ → Type 0 = λ n. (n ≡ none) ⊎ IsHeld texts us k n in
    let Owned : ℕ → Type 0 = λ n. (n ≡ none) ⊎ IsOwned views k n in
    let new_place : IsInPlace texts us k (holder m) =
    subst (IsInPlace texts us k) (sym goes_m.same) (place_grows texts s.words us k (holder was) grows place) in
    let wide : length us ≡ slots = length-set s.words k m ∙ r.wide in
    let within : k < length us = omega (arith, wide, lt) in
    let Placed : ℕ → Type 0 = λ n. (n ≢ none) × (text_at texts (holder n) ≡ text_at texts (least op)) × (least n ≤ least op) in
    let placed : Placed (get_or us k 0) = subst Placed (sym now) (goes_m.filled, ap (text_at texts) (goes_m.same ∙ stands.holds.holds) ∙ equal, most) in
    let at_k : IsPlaced texts us (pair k (least op)) = record { within = within; number = number; filled = placed.0; equal = placed.1; most = placed.2 } in record {
      long = length-set s.words k m;
      others = others;
      on = on;
      held = subst Held (sym now) (inr (record { place = new_place; equal = after.0 }));
      owned = subst Owned (sym now) (inr after.1);
      shows = λ p none_shown. let gone = none_shown.1 in absurd (omega (arith, gone));
      places = λ p is. subst (IsPlaced texts us) (placed_lowered k (least op) x p is) at_k;
    }

pub lower_keeps : (slots own id : ℕ) (texts : List (List ℕ)) (me : Seated) (k op : ℕ) → k < slots → length texts ≤ 2 ^ 31 → me.0.live ≡ true
    → least op < length texts → Contains me.0.seen (pair k (holder op)) → text_at texts (holder op) ≡ text_at texts (least op)
    → Allows (Kept slots texts) own id me k (λ n. min n op) (TellsLower (step own k op 0 no_value) me)
lower_keeps slots own id texts me k op lt few live number has equal s r wide at small =
    let x : ℕ = get_or s.words k 0 in
    let f = r.each id me.0 at live in
    let st : OwnStep = Lowered k (least op) x in
    let w : View = view_after me.0 st in
    let stands = f.seen (pair k (holder op)) has in
    let us : List ℕ = set s.words k (min x op) in
    let kept = step_keeps slots texts s us id me.0 st k at live r (lowers slots texts s id me.0 k op (min x op) x lt few at live r number has equal (lesser_cases x op stands.holds.holds)) in (
      w,
      keeps,
      tt,
      kept,
      record { view = refl; slots = refl; apart = apart_after slots texts s us id me.0 st at live f.one_list kept },
    )

pub split_keeps : (slots id : ℕ) (texts : List (List ℕ)) (v : View) → v.live ≡ true → Splits (Kept slots texts) id v (view_after_split v) (view_split v)
split_keeps slots id texts v live s r at =
    let left : View = view_after_split v in
    let right : View = view_split v in record {
      wide = r.wide;
      held = r.held;
      owned = owned_stays s.views (set s.views id left ++ right ∷ []) s.words
          (record {
            filled = λ k n. some_split is_live (HasFilled k n) s.views id v left right at live (filled-left k n v.steps (SplitOff ∷ []));
            offered = λ k n. some_split is_live (HasOffered k n) s.views id v left right at live (offered-left k n v.steps (SplitOff ∷ []));
          })
          r.owned;
      each = each_split is_live (Fits texts s.words) s.views id left right
          (λ on. let f = r.each id v at on in record { one_list = f.one_list; seen = f.seen; placed = f.placed })
          (λ on. let f = r.each id v at on in record { one_list = f.one_list; seen = f.seen; placed = f.placed }) r.each;
      shares = whole_split is_live share_of s.views id v left right at live live live refl refl r.shares;
    }

Fits-joined : (texts : List (List ℕ)) (ws : List ℕ) (v w : View) → Fits texts ws v → Fits texts ws w → Fits texts ws (view_joined v w)
Fits-joined texts ws v w f g = record {
  one_list = f.one_list;
  seen = λ p has. ⊎_elim (λ (mine : Contains v.seen p). f.seen p mine) (λ (other : Contains w.seen p). g.seen p other) (Contains-append_cases v.seen w.seen p has);
  placed = λ p has. ⊎_elim (λ (mine : Contains v.placed p). f.placed p mine) (λ (other : Contains w.placed p). g.placed p other) (Contains-append_cases v.placed w.placed p has);
}

pub join_keeps : (slots id other : ℕ) (texts : List (List ℕ)) (v w : View) → v.live ≡ true → w.live ≡ true → Joins (Kept slots texts) id v other w (view_joined v w) view_spent
join_keeps slots id other texts v w live alive s r at ne there =
    let both : View = view_joined v w in
    let theirs : get_elem? s.views other ≡ some w = other_view s.views id other both w ne there in record {
      wide = r.wide;
      held = r.held;
      owned = owned_stays s.views (set (set s.views id both) other view_spent) s.words
          (record {
            filled = λ k n. some_join is_live (HasFilled k n) s.views id other v w both view_spent at ne theirs live
                (filled-left k n v.steps w.steps) (λ (has : Contains w.steps (Tried k n none)). Contains-append_right v.steps w.steps (Tried k n none) has);
            offered = λ k n. some_join is_live (HasOffered k n) s.views id other v w both view_spent at ne theirs live
                (offered-left k n v.steps w.steps) (offered-right k n v.steps w.steps);
          })
          r.owned;
      each = each_join is_live (Fits texts s.words) s.views id other both view_spent (λ _. Fits-joined texts s.words v w (r.each id v at live) (r.each other w theirs alive)) refl r.each;
      shares = whole_join is_live share_of s.views id other v w both view_spent at live there theirs alive live refl refl r.shares;
    }

-- a new table's slots are all empty
pub opening_keeps : (slots : ℕ) (texts : List (List ℕ)) → Kept slots texts (opening (replicate slots none) [] (founder texts))
opening_keeps slots texts =
    let long : length (replicate slots none) ≡ slots = length-replicate slots none in
    let empty : (k : ℕ) → k < length (replicate slots none) → get_or (replicate slots none) k 0 ≡ none = λ k lt. get_or-replicate slots k none 0 (omega (arith, long, lt)) in record {
      wide = long;
      held = λ k lt. inl (empty k lt);
      owned = λ k lt. inl (empty k lt);
      each = each_first is_live (Fits texts (replicate slots none)) (founder texts) (record {
        one_list = refl;
        seen = λ p has. let lt = has.1 in absurd (omega (arith, lt));
        placed = λ p has. let lt = has.1 in absurd (omega (arith, lt));
      });
      shares = whole_first is_live share_of (founder texts) refl refl;
    }
