-- How workers share the claims of a list of offers: each has a seat and a piece of the list.
use Rattle.std.specs.Prelude.{◌≡◌, ℕ, ◌<◌, ◌≤◌, List, length, All}
use Rattle.std.specs.declared.ops.Range.{Range}
use Rattle.claim_core.specs.declared.events.Event.{Event}
use Rattle.rank_claims.specs.declared.rule.OwnStep.{OwnStep}
use Rattle.rank_claims.specs.Claims.{TableView, SeatView, SitsAt, HasClaimed, offer_at}
use Rattle.work_split.specs.Tasks.{IsAt}

-- the offers from one place up to another were each claimed by one of these steps
abbrev pub HasClaimedFrom : List Event → ℕ → ℕ → List OwnStep → Type 0
HasClaimedFrom offers start end steps = (i : ℕ) → start ≤ i → i < end → HasClaimed steps (offer_at offers i)

-- what the first steps claimed, the second ones did too
abbrev pub KeepsClaims : List OwnStep → List OwnStep → Type 0
KeepsClaims steps more = (e : Event) → HasClaimed steps e → HasClaimed more e

-- The seats that the workers give back: each has claimed the offers of its piece
pub record AreDone (table : TableView) (offers : List Event) (cuts : List (Range ℕ)) (seats : List SeatView) : Type 0 where
  pub count : length seats ≡ length cuts
  pub seated : All (SitsAt table) seats
  pub each : (w : ℕ) (p : Range ℕ) (s : SeatView) → w < length cuts → IsAt cuts w p → IsAt seats w s → HasClaimedFrom offers p.start p.end s.steps
