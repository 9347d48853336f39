use Rattle.std.proofs.Common.{◌∙◌, Option, ap, sym}
use Rattle.std.specs.Option.{option_map}
use Rattle.lk_tables.specs.TablesView.{files_of}
use Rattle.link_sections.specs.FoldItems.{item_views}
use Rattle.why_chain.specs.declared.chains.ApartChain.{ApartChain}
use Rattle.why_chain.specs.Aparts.{chain_view}
use Rattle.link_driver.specs.Certificates.{lines_of_chain}
use Rattle.link_passes.specs.Contents.{names_of}
use Rattle.link_driver.proofs.Certifying.{chain_is}
use Rattle.link_passes.proofs.Handing.{on_each}
use Rattle.link_driver.proofs.certificate_lines.chain_text.Goals as goal

pub returns-in_default : goal.returns-in_default
returns-in_default c =
    on_each c.names_line.result (λ text is.
    is ∙ ap (λ (o : Option ApartChain). lines_of_chain (names_of c.args.names.now) (files_of c.args.tables.now) (item_views c.args.items.now) c.args.one.now c.args.two.now c.args.pair (option_map chain_view o))
    (sym c.in_default.is)) c.names_line.ensures

pub returns : goal.returns
returns c =
    chain_is (names_of c.args.names.now) (files_of c.args.tables.now) (item_views c.args.items.now) c.args.one.now c.args.two.now c.args.pair c.in-Some.chain c.args.chain.now
    c.as_slice.result.now c.in_ok-text.text.items c.push_pair.new.text.items c.push_vias.new.text.items c.push_end.new.text.items c.in-Some.is c.as_slice.ensures.value
    c.in_ok-text.ensures c.in_ok-push_pair.ensures c.in_ok-push_vias.ensures c.in_ok-push_end.ensures
