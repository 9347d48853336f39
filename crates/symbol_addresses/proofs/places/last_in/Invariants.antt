use Rattle.std.proofs.Common.{◌≡◌, take}
use Rattle.std.specs.Prelude.{find, reverse}
use Rattle.std.specs.Str.{bytes_eq}
use Rattle.link_sections.specs.declared.layouts.OutputPlace.{OutputPlace}
use Rattle.symbol_addresses.proofs.places.last_in.Given as goal

abbrev pub invariant-loop-place : goal.invariant-loop-place
invariant-loop-place l = l.last ≡ find (λ (p : OutputPlace). bytes_eq p.name.now l.name) (reverse (take l.place-index l.places))
