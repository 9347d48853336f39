use Rattle.std.proofs.Common.{◌∙◌, ◌&&◌, ap}
use Rattle.std.specs.Prelude.{option_map, find}
use Rattle.std.specs.Str.{bytes_eq}
use Rattle.link_sections.specs.declared.layouts.OutputPlace.{OutputPlace as HeldPlace}
use Rattle.link_sections.specs.Addresses.{has_name_in_rw, is_rw_bits, rw_place}
use Rattle.link_sections.specs.LaidOut.{layout_view, place_view, with_contents}
use Rattle.symbol_addresses.proofs.FoundPlaces.{view_found}
use Rattle.symbol_addresses.proofs.places.rw_place.Goals as goal

pub returns : goal.returns
unfolding rw_place layout_view with_contents
returns c =
    let name = c.args.name.now in
    ap (option_map place_view) (c.first_rw.ensures ∙ ap (find (λ (p : HeldPlace). is_rw_bits p.class && bytes_eq p.name.now name)) c.as_slice.ensures.value)
    ∙ view_found (has_name_in_rw name) c.args.link.now.layout.now.places.items
