use Rattle.std.proofs.Common.{map, take}
use Rattle.link_sections.specs.LaidOut.{place_view}
use Rattle.symbol_addresses.specs.Noted.{AreExtents, noted}
use Rattle.symbol_addresses.proofs.extents.Extents.of.Given as goal

abbrev pub invariant-loop-place : goal.invariant-loop-place
invariant-loop-place l = AreExtents (map place_view (take l.place-index l.layout.places.items)) (noted l.known)
