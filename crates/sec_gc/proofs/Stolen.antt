-- What workers that steal give back.
use Rattle.std.proofs.Common.{◌≡◌, ℕ, ◌<◌, List, length, get_or, All, arith}
use Rattle.std.proofs.lemmas.List.{get_or_default}
use Rattle.std.specs.declared.ops.Range.{Range}
use Rattle.sec_gc.specs.declared.closing.Done.{Done}
use Rattle.sec_gc.specs.declared.stealing.Share.{Share}
use Rattle.sec_gc.specs.Marks.{MarksView, SitsAt}
use Rattle.work_split.specs.Tasks.{IsAt}
use Rattle.work_split.proofs.Tiling.{at_place}

-- each of their seats sits at the marks
pub seated_from : (m : MarksView) (cuts : List (Range ℕ)) (shares : List Share) (done : List Done) → length cuts ≡ length shares → length done ≡ length cuts
    → ((w : ℕ) (p : Range ℕ) (x : Share) (y : Done) → w < length cuts → IsAt cuts w p → IsAt shares w x → IsAt done w y → Range ℕ × SitsAt m y.seat)
    → All (λ d. SitsAt m d.seat) done
seated_from m cuts shares done given count each w d lt =
    let here : w < length cuts = omega (arith, lt, count) in
    let nothing : Range ℕ = record { start = 0; end = 0 } in
    let p : Range ℕ = get_or cuts w nothing in
    let y : Done = get_or done w d in
    let own = at_place shares w (omega (arith, here, given)) in
    (each w p own.0 y here (get_or_default cuts w nothing p here) own.1 (get_or_default done w d y lt)).1
