use Rattle.std.proofs.Common.{ℕ, List, length, ap, ◌∙◌, sym, subst}
use Rattle.std.specs.Global.{Vec}
use Rattle.intern_race.specs.declared.rule.Pair.{Pair}
use Rattle.name_numbers.specs.Placed.{ArePlaced, AreSlots}
use Rattle.name_numbers.proofs.Placing.{all_know, all_sit}
use Rattle.name_numbers.proofs.racing.number_all.Goals as goal

pub seats_for-requires : goal.seats_for-requires
seats_for-requires g c = c.requires.ready.sits

pub number_pieces-requires-clause-seated : goal.number_pieces-requires-clause-seated
number_pieces-requires-clause-seated g c κs bound = all_sit c.args.table.now _ c.in_ok-seats.seats.items c.in_ok-seats.ensures.seated

pub number_pieces-requires-clause-all : goal.number_pieces-requires-clause-all
number_pieces-requires-clause-all g c κs bound =
    all_know c.args.table.now (ArePlaced (length c.args.texts.now)) c.args.seat.now.placed c.in_ok-seats.seats.items c.requires.ready.all c.in_ok-seats.ensures.seated

pub number_pieces-requires-clause-lists : goal.number_pieces-requires-clause-lists
number_pieces-requires-clause-lists g c κs bound =
    let P : List (Vec ℕ) → Type 0 = AreSlots c.args.table.now c.args.cuts.now c.args.seat.now.placed in
    let Q : List Pair → Type 0 = λ placed. AreSlots c.args.table.now c.args.cuts.now placed c.as_slice.result.now in
    all_know c.args.table.now Q c.args.seat.now.placed c.in_ok-seats.seats.items (subst P (sym c.as_slice.ensures.value) c.requires.ready.slots) c.in_ok-seats.ensures.seated

pub number_pieces-requires-clause-wide : goal.number_pieces-requires-clause-wide
number_pieces-requires-clause-wide g c κs bound = ap length c.as_slice.ensures.value ∙ c.requires.ready.slots.count
