use Rattle.intern_race.proofs.Sitting.{sits_after}
use Rattle.tests_passes.proofs.tests.text_table.place_at.Goals as goal

pub returns : goal.returns
returns c =
    let walk = c.place.ensures.walk in
    sits_after c.args.interner.now c.args.seat.now c.place.new.seat walk.0 c.requires.seat walk.2
