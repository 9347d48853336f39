use Rattle.std.proofs.Common.{rules, ◌≡◌, sym, subst}
use Rattle.intern_race.specs.Interning.{HasPlacedAll, SeatView}
use Rattle.tests_passes.proofs.tests.text_table.closed.Goals as goal

pub close-requires-in-Err-clause-placed : goal.close-requires-in-Err-clause-placed
close-requires-in-Err-clause-placed c =
    let same : c.in-Err.seat ≡ c.place_all.new.seat = search rules in
    let Has : SeatView → Type 0 = λ s. HasPlacedAll s in
    subst Has (sym same) c.place_all.ensures.placed
