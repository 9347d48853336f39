-- What the workers of a closing round give back.
use Rattle.std.specs.Prelude.{◌≡◌, ℕ, ◌<◌, Bool, true, List, length, All, Contains}
use Rattle.std.specs.declared.ops.Range.{Range}
use Rattle.sec_gc.specs.declared.closing.Done.{Done}
use Rattle.sec_gc.specs.Closing.{HaveEnds, Rests}
use Rattle.sec_gc.specs.Marks.{MarksView, SitsAt}
use Rattle.work_split.specs.Tasks.{IsAt}

-- one of them found something missing
pub record HasMore (done : List Done) : Type 0 where
  pub one : Done
  pub among : Contains done one
  pub more : one.more ≡ true

-- each of them sits at the marks, and has marked the ends of its piece
pub record AreDone (m : MarksView) (on : List Bool) (cuts : List (Range ℕ)) (done : List Done) : Type 0 where
  pub count : length done ≡ length cuts
  pub seated : All (λ d. SitsAt m d.seat) done
  pub each : (w : ℕ) (p : Range ℕ) (d : Done) → w < length cuts → IsAt cuts w p → IsAt done w d → Rests d.seat.seen on (HaveEnds m.ends on p.start p.end) d.more
