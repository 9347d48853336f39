use Rattle.std.proofs.Common.{◌≡◌, ◌≤◌}
use Rattle.icf_part.specs.Chosen.{views_at}
use Rattle.icf_part.specs.Signatures.{places_from}
use Rattle.icf_part.proofs.places.places_of.Given as goal

abbrev pub invariant-loop-a : goal.invariant-loop-a
invariant-loop-a l = (l.fn.piece.start ≤ l.a) × (l.rows ≡ places_from l.sections (views_at l.items l.chosen) l.fn.piece.start l.a)
