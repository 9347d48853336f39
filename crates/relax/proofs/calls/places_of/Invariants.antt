use Rattle.relax.proofs.Places.{AreNoted}
use Rattle.relax.proofs.calls.places_of.Given as goal

abbrev pub invariant-loop-i : goal.invariant-loop-i
invariant-loop-i l = AreNoted l.members l.fn.count l.i l.places.items
