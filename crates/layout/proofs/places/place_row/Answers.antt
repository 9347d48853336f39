use Rattle.layout.specs.Walk.{stands_view}
use Rattle.layout.proofs.places.place_row.Goals as goal

pub returns-clause-stands : goal.returns-clause-stands
unfolding stands_view
returns-clause-stands c = c.put.ensures.stands
