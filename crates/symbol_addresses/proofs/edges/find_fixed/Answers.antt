use Rattle.std.proofs.Common.{◌∙◌, ap, [], ◌∷◌, ◌++◌}
use Rattle.lk_base.proofs.Loops.{map_step}
use Rattle.lk_tables.specs.LinkerSymbols.{edge_of}
use Rattle.link_sections.specs.Addresses.{edge_address}
use Rattle.link_sections.specs.Links.{link_laid}
use Rattle.symbol_addresses.proofs.edges.find_fixed.Goals as goal

pub loop-number-preserved : goal.loop-number-preserved
loop-number-preserved c =
    let laid = link_laid c.args.link.now in
    map_step (λ n. edge_address laid (edge_of n)) c.loop-number.number c.loop-number.list.items c.push.new.self.items c.loop-number.invariant
    (c.in_ok-push.ensures.items ∙ ap (λ n. c.loop-number.list.items ++ n ∷ []) (c.edge_address.ensures ∙ ap (edge_address laid) c.edge_of.ensures))
