use Rattle.std.proofs.Common.{◌∙◌, ap}
use Rattle.lk_tables.specs.TablesView.{files_of}
use Rattle.link_sections.specs.FoldItems.{item_views}
use Rattle.link_driver.specs.Certificates.{lines_of_chain}
use Rattle.link_passes.specs.Contents.{names_of}
use Rattle.link_passes.proofs.Handing.{on_each}
use Rattle.link_driver.proofs.certificates.chain_lines.Goals as goal

pub returns : goal.returns
returns g c =
    on_each c.chain_text.result (λ text is.
    is ∙ ap (lines_of_chain (names_of c.args.names.now) (files_of c.args.tables.now) (item_views c.args.items.now) c.args.one.now c.args.two.now c.args.pair)
    c.in_ok-chain.ensures) c.chain_text.ensures
