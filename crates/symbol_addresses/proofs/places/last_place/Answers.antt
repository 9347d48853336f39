use Rattle.std.proofs.Common.{◌∙◌, ap, List}
use Rattle.std.specs.Prelude.{option_map, find, reverse}
use Rattle.std.specs.Str.{bytes_eq}
use Rattle.link_sections.specs.declared.layouts.OutputPlace.{OutputPlace as HeldPlace}
use Rattle.link_sections.specs.Addresses.{has_name, last_place}
use Rattle.link_sections.specs.LaidOut.{layout_view, place_view, with_contents}
use Rattle.symbol_addresses.proofs.FoundPlaces.{view_found, view_reverse}
use Rattle.symbol_addresses.proofs.places.last_place.Goals as goal

pub returns : goal.returns
unfolding last_place layout_view with_contents
returns c =
    let name = c.args.name.now in
    let places = c.args.link.now.layout.now.places.items in
    ap (option_map place_view) (c.last_in.ensures ∙ ap (λ (ps : List HeldPlace). find (λ (p : HeldPlace). bytes_eq p.name.now name) (reverse ps)) c.as_slice.ensures.value)
    ∙ view_found (has_name name) (reverse places) ∙ ap (find (has_name name)) (view_reverse places)
