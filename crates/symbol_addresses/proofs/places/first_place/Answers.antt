use Rattle.std.proofs.Common.{◌∙◌, ap}
use Rattle.std.specs.Prelude.{option_map, find}
use Rattle.std.specs.Str.{bytes_eq}
use Rattle.link_sections.specs.declared.layouts.OutputPlace.{OutputPlace as HeldPlace}
use Rattle.link_sections.specs.Addresses.{first_place, has_name}
use Rattle.link_sections.specs.LaidOut.{layout_view, place_view, with_contents}
use Rattle.symbol_addresses.proofs.FoundPlaces.{view_found}
use Rattle.symbol_addresses.proofs.places.first_place.Goals as goal

pub returns : goal.returns
unfolding first_place layout_view with_contents
returns c =
    let name = c.args.name.now in
    ap (option_map place_view) (c.first_in.ensures ∙ ap (find (λ (p : HeldPlace). bytes_eq p.name.now name)) c.as_slice.ensures.value)
    ∙ view_found (has_name name) c.args.link.now.layout.now.places.items
