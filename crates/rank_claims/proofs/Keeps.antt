-- Each step on a table of claims keeps its rule.
use Rattle.std.proofs.Common.{◌≡◌, ◌≢◌, ℕ, ◌<◌, ◌≤◌, true, List, [], ◌∷◌, ◌++◌, length, max, min, get_or, set, Contains, refl, sym, ap, ◌∙◌, subst, ⊎_elim, arith}
use Rattle.std.proofs.lemmas.List.{length-set, length-replicate, get_or-replicate, get_or-set_same, get_or-set_other, set-get_or}
use Rattle.std.proofs.lemmas.List.Elements.{All-nil, All-push}
use Rattle.std.proofs.lemmas.Bool.{cases_eq}
use mathlib.Core.Option.{none, some}
use lib.ListN.{get_elem?}
use Rattle.atomic_table.specs.Table.{State, step, keeps, opening, Allows, Splits, Joins}
use Rattle.claim_core.specs.declared.events.Event.{Event}
use Rattle.claim_core.specs.declared.events.TheConstants.{NONE}
use Rattle.claim_core.specs.Events.{event, none_of, lowered, after, IsReached, IsOffered}
use Rattle.claim_core.proofs.EventLemmas.{length-lowered, after-push, lowered_at, lowered_else, lowered_falls, IsReached-offered}
use Rattle.rank_claims.specs.declared.rule.OwnStep.TheVariants.{Claimed, Read, SplitOff}
use Rattle.rank_claims.specs.declared.rule.View.{View}
use Rattle.rank_claims.specs.Claims.{HasClaimed}
use Rattle.rank_claims.specs.Rule.{is_live, share_of, Seated, Fits, Kept, ViewFinds, TellsClaim, TellsLook, IsSeated, Covers, founder, view_after_claim, view_after_look, view_after_split, view_split, view_joined, view_spent}
use Rattle.rank_claims.proofs.Claimed.{HasClaimed-left, HasClaimed-push, HasClaimed-right, claimed_lowered, claimed_none, claimed_stays}
use Rattle.seat_views.proofs.EachViews.{each_first, each_join, each_split, each_step}
use Rattle.seat_views.proofs.Places.{other_view}
use Rattle.seat_views.proofs.SomeViews.{some_here, some_join, some_split, some_step}
use Rattle.seat_views.proofs.Wholes.{whole_first, whole_join, whole_split, whole_step}
use Rattle.rank_claims.proofs.Rows.{length-lesser_of, le-lesser_of, Covers-claimed, Covers-looked, Covers-split, Covers-joined}

abbrev Table : Type 0
Table = State (Unit {0}) View

-- one event more of the offers
pub IsReached-lowered : (offers : List Event) (ws : List ℕ) (e : Event) → Contains offers e → IsReached offers ws → IsReached offers (lowered ws e)
IsReached-lowered offers ws e on r = record {
  events = r.events ++ e ∷ [];
  offered = All-push (Contains offers) r.events e r.offered on;
  leads = ap (λ (n : ℕ). after (none_of n) (r.events ++ e ∷ [])) (length-lowered ws e) ∙ after-push (none_of (length ws)) r.events e ∙ ap (λ (l : List ℕ). lowered l e) r.leads;
}

-- the words fall, and a view that knew them knows them still
Fits-lowered : (count : ℕ) (offers : List Event) (ws : List ℕ) (e : Event) (v : View) → Fits count offers ws v → Fits count offers (lowered ws e) v
Fits-lowered count offers ws e v f = record {
  one_list = f.one_list;
  wide = f.wide;
  above = λ w lt. omega (arith, lowered_falls ws e w, f.above w lt);
}

Fits-claimed : (count : ℕ) (offers : List Event) (ws : List ℕ) (e : Event) (v : View) → e.word < length ws → e.word < count → Fits count offers ws v → Fits count offers (lowered ws e) (view_after_claim v e (get_or ws e.word 0))
Fits-claimed count offers ws e v here on f =
    let n : ℕ = min (get_or ws e.word 0) e.rank in
    let wide : length v.known ≡ count = f.wide in record {
      one_list = f.one_list;
      wide = length-set v.known e.word n ∙ f.wide;
      above = λ w lt. ⊎_elim
          (λ (at : w ≡ e.word). let P : ℕ → Type 0 = λ k. get_or (lowered ws e) k 0 ≤ get_or (set v.known e.word n) k 0 in subst P (sym at) (omega (arith, lowered_at ws e here, get_or-set_same v.known e.word n 0 (omega arith))))
          (λ (ne : w ≢ e.word). omega (arith, lowered_else ws e w ne, get_or-set_other v.known e.word w n 0 ne, f.above w lt))
          (cases_eq w e.word);
    }

Fits-looked : (count : ℕ) (offers : List Event) (ws : List ℕ) (word : ℕ) (v : View) → word < count → Fits count offers ws v → Fits count offers ws (view_after_look v word (get_or ws word 0))
Fits-looked count offers ws word v on f =
    let n : ℕ = get_or ws word 0 in
    let wide : length v.known ≡ count = f.wide in record {
      one_list = f.one_list;
      wide = length-set v.known word n ∙ f.wide;
      above = λ w lt. ⊎_elim
          (λ (at : w ≡ word). let P : ℕ → Type 0 = λ k. get_or ws k 0 ≤ get_or (set v.known word n) k 0 in subst P (sym at) (omega (arith, get_or-set_same v.known word n 0 (omega arith))))
          (λ (ne : w ≢ word). omega (arith, get_or-set_other v.known word w n 0 ne, f.above w lt))
          (cases_eq w word);
    }

-- what a step finds
finds : (count : ℕ) (offers : List Event) (s : Table) (v : View) (word : ℕ) → word < count → Kept count offers s → Fits count offers s.words v → ViewFinds v word (get_or s.words word 0)
finds count offers s v word on r f =
    let P : List Event → Type 0 = λ os. IsOffered os word (get_or s.words word 0) in
    (subst P (sym f.one_list) (IsReached-offered offers s.words r.reached word (omega (arith, r.wide))), f.above word on)

pub claim_keeps : (count slots id : ℕ) (offers : List Event) (me : Seated) (e : Event) → Contains offers e → e.word < count → me.0.live ≡ true
    → Allows (Kept count offers) slots id me e.word (λ n. min n e.rank) (TellsClaim (step slots e.word e.rank 0 none) me)
claim_keeps count slots id offers me e on lt live s r wide at small =
    let x : ℕ = get_or s.words e.word 0 in
    let f = r.each id me.0 at live in
    let here : e.word < length s.words = omega (arith, r.wide) in
    let w : View = view_after_claim me.0 e x in (
      w,
      keeps,
      tt,
      record {
        wide = length-lowered s.words e ∙ r.wide;
        reached = IsReached-lowered offers s.words e on r.reached;
        claimed = claimed_lowered s.views (set s.views id w) s.words e here
            (λ word rank. some_step is_live (λ v. HasClaimed v.steps (event word rank)) s.views id me.0 w at live (HasClaimed-left me.0.steps (Claimed e x ∷ []) (event word rank)))
            (some_here is_live (λ v. HasClaimed v.steps e) s.views id me.0 w at live (HasClaimed-push me.0.steps e x))
            r.claimed;
        each = each_step is_live (Fits count offers s.words) (Fits count offers (lowered s.words e)) s.views id w (Fits-lowered count offers s.words e)
            (λ _. Fits-claimed count offers s.words e me.0 here lt f) r.each;
        shares = whole_step is_live share_of s.views id me.0 w at live live refl r.shares;
      },
      record { view = refl; slots = refl; finds = finds count offers s me.0 e.word lt r f },
    )

-- a look writes the word as it was
pub look_keeps : (count slots id : ℕ) (offers : List Event) (me : Seated) (word : ℕ) → word < count → me.0.live ≡ true
    → Allows (Kept count offers) slots id me word (λ n. n) (TellsLook (step slots word 0 0 none) me)
look_keeps count slots id offers me word lt live s r wide at small =
    let x : ℕ = get_or s.words word 0 in
    let f = r.each id me.0 at live in
    let w : View = view_after_look me.0 word x in
    let Holds : List ℕ → Type 0 = λ ws. Kept count offers (record { words = ws; homes = s.homes; views = set s.views id w }) in (
      w,
      keeps,
      tt,
      subst Holds (sym (set-get_or s.words word 0)) (record {
        wide = r.wide;
        reached = r.reached;
        claimed = claimed_stays s.views (set s.views id w) s.words
            (λ other rank. some_step is_live (λ v. HasClaimed v.steps (event other rank)) s.views id me.0 w at live (HasClaimed-left me.0.steps (Read word x ∷ []) (event other rank))) r.claimed;
        each = each_step is_live (Fits count offers s.words) (Fits count offers s.words) s.views id w (λ v fits. fits) (λ _. Fits-looked count offers s.words word me.0 lt f) r.each;
        shares = whole_step is_live share_of s.views id me.0 w at live live refl r.shares;
      }),
      record { view = refl; slots = refl; finds = finds count offers s me.0 word lt r f },
    )

pub split_keeps : (count id : ℕ) (offers : List Event) (v : View) → v.live ≡ true → Splits (Kept count offers) id v (view_after_split v) (view_split v)
split_keeps count id offers v live s r at = record {
  wide = r.wide;
  reached = r.reached;
  claimed = claimed_stays s.views (set s.views id (view_after_split v) ++ view_split v ∷ []) s.words
      (λ word rank. some_split is_live (λ u. HasClaimed u.steps (event word rank)) s.views id v (view_after_split v) (view_split v) at live (HasClaimed-left v.steps (SplitOff ∷ []) (event word rank)))
      r.claimed;
  each = each_split is_live (Fits count offers s.words) s.views id (view_after_split v) (view_split v)
      (λ on. let f = r.each id v at on in record { one_list = f.one_list; wide = f.wide; above = f.above })
      (λ on. let f = r.each id v at on in record { one_list = f.one_list; wide = f.wide; above = f.above }) r.each;
  shares = whole_split is_live share_of s.views id v (view_after_split v) (view_split v) at live live live refl refl r.shares;
}

Fits-joined : (count : ℕ) (offers : List Event) (ws : List ℕ) (v w : View) → Fits count offers ws v → Fits count offers ws w → Fits count offers ws (view_joined v w)
Fits-joined count offers ws v w f g = record {
  one_list = f.one_list;
  wide = length-lesser_of v.known w.known (f.wide ∙ sym g.wide) ∙ f.wide;
  above = λ k lt. le-lesser_of (get_or ws k 0) v.known w.known k (f.above k lt) (g.above k lt);
}

pub join_keeps : (count id other : ℕ) (offers : List Event) (v w : View) → v.live ≡ true → w.live ≡ true → Joins (Kept count offers) id v other w (view_joined v w) view_spent
join_keeps count id other offers v w live alive s r at ne there =
    let both : View = view_joined v w in
    let theirs : get_elem? s.views other ≡ some w = other_view s.views id other both w ne there in record {
      wide = r.wide;
      reached = r.reached;
      claimed = claimed_stays s.views (set (set s.views id both) other view_spent) s.words
          (λ word rank. some_join is_live (λ u. HasClaimed u.steps (event word rank)) s.views id other v w both view_spent at ne theirs live
          (HasClaimed-left v.steps w.steps (event word rank)) (HasClaimed-right v.steps w.steps (event word rank)))
          r.claimed;
      each = each_join is_live (Fits count offers s.words) s.views id other both view_spent (λ _. Fits-joined count offers s.words v w (r.each id v at live) (r.each other w theirs alive)) refl r.each;
      shares = whole_join is_live share_of s.views id other v w both view_spent at live there theirs alive live refl refl r.shares;
    }

founder_fits : (count : ℕ) (offers : List Event) → Fits count offers (none_of (max count 1)) (founder count offers)
founder_fits count offers = record {
  one_list = refl;
  wide = length-replicate count NONE;
  above = λ w lt. omega (arith, get_or-replicate (max count 1) w NONE 0 (omega arith), get_or-replicate count w NONE 0 lt);
}

pub opening_keeps : (count : ℕ) (offers : List Event) → Kept count offers (opening (none_of (max count 1)) [] (founder count offers))
opening_keeps count offers = record {
  wide = length-replicate (max count 1) NONE;
  reached = record { events = []; offered = All-nil (Contains offers); leads = ap none_of (length-replicate (max count 1) NONE) };
  claimed = claimed_none (founder count offers ∷ []) (max count 1);
  each = each_first is_live (Fits count offers (none_of (max count 1))) (founder count offers) (founder_fits count offers);
  shares = whole_first is_live share_of (founder count offers) refl refl;
}

-- a seat stays one that callers have
pub seated-claimed : (slots : ℕ) (e : Event) (m m' : Seated) (found : ℕ) → IsSeated m → TellsClaim (step slots e.word e.rank 0 none) m found m' → IsSeated m'
seated-claimed slots e m m' found seated told =
    let P : View → Type 0 = λ v. (v.live ≡ true) × Covers v.known v.steps in
    let after = subst P (sym told.view) (seated.live, Covers-claimed m.0.known m.0.steps e found told.finds.1 seated.covers) in
    record { live = after.0; slots = told.slots ∙ seated.slots; covers = after.1 }

pub seated-looked : (slots word : ℕ) (m m' : Seated) (found : ℕ) → IsSeated m → TellsLook (step slots word 0 0 none) m found m' → IsSeated m'
seated-looked slots word m m' found seated told =
    let P : View → Type 0 = λ v. (v.live ≡ true) × Covers v.known v.steps in
    let after = subst P (sym told.view) (seated.live, Covers-looked m.0.known m.0.steps word found told.finds.1 seated.covers) in
    record { live = after.0; slots = told.slots ∙ seated.slots; covers = after.1 }

pub seated-split : (m m' : Seated) → IsSeated m → m' ≡ (view_after_split m.0, m.1) → IsSeated m'
seated-split m m' seated same =
    let after : IsSeated (view_after_split m.0, m.1) = record {
      live = seated.live;
      slots = seated.slots;
      covers = Covers-split m.0.known m.0.steps seated.covers;
    } in
    subst IsSeated (sym same) after

pub seated-joined : (m w m' : Seated) → IsSeated m → IsSeated w → m' ≡ (view_joined m.0 w.0, m.1) → IsSeated m'
seated-joined m w m' seated other same =
    let joined : IsSeated (view_joined m.0 w.0, m.1) = record {
      live = seated.live;
      slots = seated.slots;
      covers = Covers-joined m.0.known w.0.known m.0.steps w.0.steps seated.covers other.covers;
    } in
    subst IsSeated (sym same) joined
