use Rattle.std.proofs.Common.{◌≡◌, Option, subst}
use Rattle.std.specs.Option.{option_map}
use Rattle.std.specs.Prelude.{IfSome}
use Rattle.link_sections.specs.FoldItems.{item_views}
use Rattle.why_chain.specs.declared.chains.ApartChain.{ApartChain}
use Rattle.why_chain.specs.Aparts.{apart_chain, chain_view}
use Rattle.link_driver.proofs.certificates.find_chain.Goals as goal

pub returns : goal.returns
returns g c =
    let P : Option (Option ApartChain) → Type 0 = λ o. IfSome o (λ chain. option_map chain_view chain ≡ apart_chain (item_views c.args.items.now) c.args.pair.one c.args.pair.two) in
    subst P c.in-Some.is c.in_ok-found.ensures.chain
