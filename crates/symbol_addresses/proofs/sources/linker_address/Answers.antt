use Rattle.std.proofs.Common.{ℕ, ◌∙◌, ap, sym, List, Option}
use Rattle.std.specs.Option.{option_map_or}
use Rattle.lk_base.specs.declared.abi.TheConstants.{IMAGE_BASE}
use Rattle.symbol_addresses.specs.declared.places.Extent.{Extent}
use Rattle.link_sections.specs.Links.{link_binding, link_files, link_laid, link_leaders}
use Rattle.symbol_addresses.specs.Noted.{noted}
use Rattle.symbol_addresses.proofs.LinkerAddresses.{listed_at, noted_end, noted_start, start_at, stop_at}
use Rattle.symbol_addresses.proofs.sources.linker_address.Goals as goal

pub returns-in_default : goal.returns-in_default
returns-in_default c =
    let sources = c.args.sources.now in
    let link = sources.link in
    c.number_at.ensures
    ∙ listed_at (link_files link) (link_binding link) (link_leaders link) (link_laid link) sources.fixed.now c.args.number sources.by_number
    (sym c.bound_section.ensures ∙ c.in_default.is)

pub returns-then-is_stop : goal.returns-then-is_stop
returns-then-is_stop c =
    let sources = c.args.sources.now in
    let link = sources.link in
    let laid = link_laid link in
    let of : List ℕ → Option Extent = noted sources.extents.now.known in
    c.get-extent.ensures.end ∙ ap (λ name. option_map_or (λ (e : Extent). e.end) (of name) IMAGE_BASE) c.name_of.ensures
    ∙ noted_end (link_files link) (link_binding link) (link_leaders link) laid of _ sources.by_name
    ∙ stop_at (link_files link) (link_binding link) (link_leaders link) laid c.args.number c.in-Some.section
    (sym c.bound_section.ensures ∙ c.in-Some.is) (sym c.is_stop.ensures ∙ c.if-is_stop.true)

pub returns-else-is_stop : goal.returns-else-is_stop
returns-else-is_stop c =
    let sources = c.args.sources.now in
    let link = sources.link in
    let laid = link_laid link in
    let of : List ℕ → Option Extent = noted sources.extents.now.known in
    c.get-extent.ensures.start ∙ ap (λ name. option_map_or (λ (e : Extent). e.start) (of name) IMAGE_BASE) c.name_of.ensures
    ∙ noted_start (link_files link) (link_binding link) (link_leaders link) laid of _ sources.by_name
    ∙ start_at (link_files link) (link_binding link) (link_leaders link) laid c.args.number c.in-Some.section
    (sym c.bound_section.ensures ∙ c.in-Some.is) (sym c.is_stop.ensures ∙ c.if-is_stop.false)
