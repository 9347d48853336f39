-- Steps that were claimed stay claimed when more are made or joined, and pieces that tile leave no offer out.
use Rattle.std.proofs.Common.{◌≡◌, ℕ, ◌+◌, ◌<◌, ◌≤◌, Result, Ok, Err, List, [], ◌∷◌, ◌++◌, length, get_or, All, IfOk, sym, ap, ◌∙◌, subst, ⊎_elim, arith, length-append, ◌-◌}
use Rattle.std.proofs.lemmas.List.{get_or_default}
use Rattle.std.proofs.lemmas.List.Elements.{All-push, All-weaker, Contains-push, All-contains_itself}
use Rattle.std.proofs.lemmas.Bool.{cases_lt}
use Rattle.std.specs.declared.ops.Range.{Range}
use Rattle.claim_core.specs.declared.events.Event.{Event}
use Rattle.claim_core.specs.Events.{event, none_of, after, EachIsLeast}
use Rattle.rank_claims.specs.declared.rule.OwnStep.{OwnStep}
use Rattle.rank_claims.specs.declared.rule.OwnStep.TheVariants.{Claimed, SplitOff}
use Rattle.rank_claims.specs.Claims.{TableView, SeatView, SitsAt, HasClaimed, HasClaimedEach, IsClosing, after_split, joined, newcomer, offer_at}
use Rattle.rank_claims.proofs.Claimed.{HasClaimed-left, HasClaimed-right}
use Rattle.work_split.specs.Pieces.{Tiles}
use Rattle.work_split.specs.Tasks.{IsAt}
use Rattle.work_split.proofs.Tiling.{tiles_cover}
use Rattle.claim_rows.specs.Shares.{HasClaimedFrom, KeepsClaims, AreDone}

-- a claim of the next offer
pub HasClaimedFrom-more : (offers : List Event) (start i found : ℕ) (steps : List OwnStep) → HasClaimedFrom offers start i steps
    → HasClaimedFrom offers start (i + 1) (steps ++ Claimed (offer_at offers i) found ∷ [])
HasClaimedFrom-more offers start i found steps before k from below =
    let step : List OwnStep = Claimed (offer_at offers i) found ∷ [] in
    ⊎_elim
    (λ (lt : k < i). HasClaimed-left steps step (offer_at offers k) (before k from lt))
    (λ (ge : i ≤ k).
    let at : i ≡ k = omega arith in
    let P : ℕ → Type 0 = λ n. HasClaimed (steps ++ step) (offer_at offers n) in
    subst P at (found, Contains-push steps (Claimed (offer_at offers i) found)))
    (cases_lt k i)

-- a seat that another was split off has its claims
pub keeps-split : (steps : List OwnStep) (s s' : SeatView) → KeepsClaims steps s.steps → s' ≡ after_split s → KeepsClaims steps s'.steps
keeps-split steps s s' keeps is = subst (λ x. KeepsClaims steps x.steps) (sym is) (λ e has. HasClaimed-left s.steps (SplitOff ∷ []) e (keeps e has))

-- the seat that was split off sits at the same table
pub sits-newcomer : (t : TableView) (s s' : SeatView) → SitsAt t s → s' ≡ newcomer s → SitsAt t s'
sits-newcomer t s s' sits is = record {
  table = ap (λ (x : SeatView). x.table) is ∙ sits.table;
  offers = ap (λ (x : SeatView). x.offers) is ∙ sits.offers;
  wide = ap (λ (x : SeatView). length x.known) is ∙ sits.wide;
}

-- a seat that another was joined into has its own claims
pub keeps-joined : (steps : List OwnStep) (s other s' : SeatView) → KeepsClaims steps s.steps → s' ≡ joined s other → KeepsClaims steps s'.steps
keeps-joined steps s other s' keeps is = subst (λ x. KeepsClaims steps x.steps) (sym is) (λ e has. HasClaimed-left s.steps other.steps e (keeps e has))

-- one more seat is joined
pub kept-more : (steps : List OwnStep) (other : SeatView) (before : List SeatView) → All (λ s. KeepsClaims s.steps steps) before
    → All (λ s. KeepsClaims s.steps (steps ++ other.steps)) (before ++ other ∷ [])
kept-more steps other before kept =
    let After : SeatView → Type 0 = λ s. KeepsClaims s.steps (steps ++ other.steps) in
    let Before : SeatView → Type 0 = λ s. KeepsClaims s.steps steps in
    let old : All After before = All-weaker Before After (λ s keeps e has. HasClaimed-left steps other.steps e (keeps e has)) before kept in
    All-push After before other old (λ e has. HasClaimed-right steps other.steps e has)

-- a seat that the workers' seats were joined into has claimed each offer
pub claimed-each : (table : TableView) (offers : List Event) (cuts : List (Range ℕ)) (seats : List SeatView) (whole : SeatView) → Tiles 0 (length offers) cuts
    → AreDone table offers cuts seats → All (λ s. KeepsClaims s.steps whole.steps) seats → HasClaimedEach offers whole.steps
claimed-each table offers cuts seats whole tiles done kept i d lt =
    let cut = tiles_cover 0 (length offers) cuts i tiles (omega arith) lt in
    let within : cut.worker < length seats = omega (arith, done.count, cut.within) in
    let s : SeatView = get_or seats cut.worker whole in
    let at : s ≡ get_or seats cut.worker s = get_or_default seats cut.worker whole s within in
    let has : HasClaimed s.steps (offer_at offers i) = done.each cut.worker cut.piece s cut.within cut.at at i cut.from cut.below in
    let P : Event → Type 0 = HasClaimed whole.steps in
    subst P (get_or_default offers i (event 0 0) d lt) (kept cut.worker whole within (offer_at offers i) has)

-- what the tasks of the pieces answer, of which each was given its seat
pub done-from : (table : TableView) (offers : List Event) (cuts : List (Range ℕ)) (seats done : List SeatView) → length cuts ≡ length seats → length done ≡ length cuts
    → ((w : ℕ) (p : Range ℕ) (x y : SeatView) → w < length cuts → IsAt cuts w p → IsAt seats w x → IsAt done w y → Range ℕ × (SitsAt table y × HasClaimedFrom offers p.start p.end y.steps))
    → AreDone table offers cuts done
done-from table offers cuts seats done given count each = record {
  count = count;
  seated = λ w s lt.
      let here : w < length cuts = omega arith in
      let nothing : Range ℕ = record { start = 0; end = 0 } in
      let p : Range ℕ = get_or cuts w nothing in
      let x : SeatView = get_or seats w s in
      let y : SeatView = get_or done w s in
      (each w p x y here (get_or_default cuts w nothing p here) (get_or_default seats w s x (omega arith)) (get_or_default done w s y lt)).1.0;
  each = λ w p s lt at_p at_s.
      let x : SeatView = get_or seats w s in
      (each w p x s lt at_p (get_or_default seats w s x (omega arith)) at_s).1.1;
}

-- the table was opened for these words and offers, and the seat that closed it has claimed each of them
pub finished : (t : TableView) (s : SeatView) (row : List ℕ) (words : ℕ) (offers : List Event) → t.words ≡ words → t.offers ≡ offers → IsClosing t s row → HasClaimedEach offers s.steps
    → EachIsLeast offers row × (row ≡ after (none_of words) offers)
finished t s row words offers count same closed has =
    let P : ℕ → List Event → Type 0 = λ n os. HasClaimedEach os s.steps → EachIsLeast os row × (row ≡ after (none_of n) os) in
    let itself = All-contains_itself t.offers in
    subst (λ (n : ℕ). P n offers) count (subst (P t.words) same (λ each. (closed.least each, closed.agrees each t.offers (itself, itself)))) has
