-- The seats that workers give back, of which each was given one of the table's.
use Rattle.std.proofs.Common.{◌≡◌, ℕ, ◌<◌, List, length, get_or, All, arith}
use Rattle.std.specs.declared.ops.Range.{Range}
use Rattle.std.proofs.lemmas.List.{get_or_default}
use Rattle.intern_race.specs.Interning.{SeatView, SitsAt, TableView}
use Rattle.work_split.specs.Tasks.{IsAt}

pub seated_from : (t : TableView) (cuts : List (Range ℕ)) (seats done : List SeatView) → length cuts ≡ length seats → length done ≡ length cuts
    → ((w : ℕ) (p : Range ℕ) (x y : SeatView) → w < length cuts → IsAt cuts w p → IsAt seats w x → IsAt done w y → Range ℕ × SitsAt t y) → All (SitsAt t) done
seated_from t cuts seats done given count each = λ w s lt.
    let here : w < length cuts = omega (arith, count, lt) in
    let nothing : Range ℕ = record { start = 0; end = 0 } in
    let p : Range ℕ = get_or cuts w nothing in
    let x : SeatView = get_or seats w s in
    let y : SeatView = get_or done w s in
    (each w p x y here (get_or_default cuts w nothing p here) (get_or_default seats w s x (omega (arith, given, here))) (get_or_default done w s y lt)).1
