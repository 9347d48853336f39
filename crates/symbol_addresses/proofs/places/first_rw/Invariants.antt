use Rattle.std.proofs.Common.{◌≡◌, Bool, ◌&&◌, drop}
use Rattle.std.specs.Prelude.{find}
use Rattle.std.specs.Str.{bytes_eq}
use Rattle.link_sections.specs.declared.layouts.OutputPlace.{OutputPlace}
use Rattle.link_sections.specs.Addresses.{is_rw_bits}
use Rattle.symbol_addresses.proofs.places.first_rw.Given as goal

abbrev pub invariant-loop-place : goal.invariant-loop-place
invariant-loop-place l =
    let named : OutputPlace → Bool = λ p. is_rw_bits p.class && bytes_eq p.name.now l.name in
    find named (drop l.place-index l.places) ≡ find named l.places
