use Rattle.std.proofs.Common.{◌≡◌, ◌+◌, ◌∙◌, ap, arith, codes}
use Rattle.link_sections.specs.Addresses.{rw_place, start_or}
use Rattle.link_sections.specs.LaidOut.{layout_view, with_contents}
use Rattle.link_sections.specs.Links.{link_laid}
use Rattle.symbol_addresses.proofs.FoundPlaces.{pointer_few}
use Rattle.symbol_addresses.proofs.edges.global_pointer.Goals as goal

pub overflow_add-result : goal.overflow_add-result
unfolding layout_view with_contents
overflow_add-result c =
    let laid = link_laid c.args.link.now in
    let is : c.start_or.result ≡ start_or laid.bounds.tls_bits_end (rw_place laid (codes ".sdata")) =
    c.start_or.ensures ∙ ap (start_or laid.bounds.tls_bits_end) c.rw_place-small.ensures in
    let few = pointer_few laid (codes ".sdata") c.requires in
    omega (arith, is, few)

pub returns : goal.returns
unfolding layout_view with_contents
returns c =
    let laid = link_laid c.args.link.now in
    ap (λ n. n + 0x800) (c.start_or.ensures ∙ ap (start_or laid.bounds.tls_bits_end) c.rw_place-small.ensures)
