-- What is listed for a run of numbers, of each of which some is listed.
use Rattle.std.specs.Prelude.{◌≡◌, ℕ, ◌-◌, Result, IfOk, List, flat_map}
use Rattle.std.specs.List.{range_with_len}
use Rattle.std.specs.Global.{Vec}
use Rattle.std.specs.declared.ops.Range.{Range}
use Rattle.lk_base.specs.declared.defects.LinkStop.{LinkStop}

-- what is listed for the numbers of a piece, in order
abbrev pub IsRun : {X : Type 0} → (ℕ → List X) → Range ℕ → Result (Vec X) LinkStop → Type 0
IsRun give piece r = IfOk r (λ list. list.items ≡ flat_map give (range_with_len piece.start (piece.end - piece.start)))
