use Rattle.std.proofs.Common.{◌≡◌, Bool, drop}
use Rattle.std.specs.Prelude.{find}
use Rattle.std.specs.Str.{bytes_eq}
use Rattle.link_sections.specs.declared.layouts.OutputPlace.{OutputPlace}
use Rattle.symbol_addresses.proofs.places.first_in.Given as goal

abbrev pub invariant-loop-place : goal.invariant-loop-place
invariant-loop-place l =
    let named : OutputPlace → Bool = λ p. bytes_eq p.name.now l.name in
    find named (drop l.place-index l.places) ≡ find named l.places
