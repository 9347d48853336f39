use Rattle.std.proofs.Common.{◌≡◌, ◌*◌, ◌<◌, ◌≤◌, Option, false, is_some, length, option_map, ap, subst, arith}
use Rattle.std.proofs.Math.Nat.{mul-le-mul_left}
use Rattle.std.specs.Prelude.{◌↔◌, IfSome}
use Rattle.link_sections.specs.FoldItems.{item_views}
use Rattle.icf_part.specs.Folding.{StandsFor}
use Rattle.why_chain.specs.declared.chains.ApartChain.{ApartChain}
use Rattle.why_chain.specs.Aparts.{IsLeastApart, apart_chain, chain_view}
use Rattle.why_chain.proofs.apart.why_apart.Goals as goal

pub returns-clause-chain : goal.returns-clause-chain
returns-clause-chain c =
    let P : Option (Option ApartChain) → Type 0 = λ o. IfSome o (λ chain. option_map chain_view chain ≡ apart_chain (item_views c.args.items.now) c.args.a c.args.b) in
    subst P c.in-Some.is c.in_ok-found.ensures.chain

pub returns-clause-least : goal.returns-clause-least
returns-clause-least c =
    let P : Option (Option ApartChain) → Type 0 = λ o. IfSome o (λ chain. IfSome chain (λ k. IsLeastApart (item_views c.args.items.now) c.args.a c.args.b (chain_view k))) in
    subst P c.in-Some.is c.in_ok-found.ensures.least

pub returns-clause-given : goal.returns-clause-given
returns-clause-given c =
    let P : Option (Option ApartChain) → Type 0 = λ o. IfSome o (λ chain. (is_some chain ≡ false) ↔ StandsFor (item_views c.args.items.now) c.args.a c.args.b) in
    subst P c.in-Some.is c.in_ok-found.ensures.given

-- there are fewer pairs than a number of 64 bits can count
pub unreachable-requires : goal.unreachable-requires
unreachable-requires c =
    let n = length c.args.items.now in
    let many = c.in_ok-found.ensures.many (ap is_some c.in_default.is) in
    let few = c.requires.few in
    let one : n * n ≤ n * 2147483648 = mul-le-mul_left n (omega (arith, few)) in
    omega (arith, many, one, few)
