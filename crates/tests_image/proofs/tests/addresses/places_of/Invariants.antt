use Rattle.std.proofs.Common.{◌+◌, ◌^◌, ◌<◌, All, map}
use Rattle.link_sections.specs.LaidOut.{OutputPlace, place_view}
use Rattle.tests_image.proofs.tests.addresses.places_of.Given as goal

abbrev pub invariant-loop-row : goal.invariant-loop-row
invariant-loop-row l = All (λ (p : OutputPlace). p.start + 2 ^ 31 < 2 ^ 64) (map place_view l.places.items)
