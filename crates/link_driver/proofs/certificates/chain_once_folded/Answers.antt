use Rattle.std.proofs.Common.{◌≡◌, ◌∙◌, ◌<◌, ℕ, List, length, get_or, ap, sym, subst, arith}
use Rattle.std.proofs.lemmas.Bool.{eqb-true}
use Rattle.std.proofs.lemmas.List.{length-map}
use Rattle.link_sections.specs.FoldItems.{item_view, item_views}
use Rattle.why_chain.proofs.Exhausted.{one_leader}
use Rattle.link_driver.proofs.certificates.chain_once_folded.Goals as goal

pub have_one_leader-requires-clause-one : goal.have_one_leader-requires-clause-one
have_one_leader-requires-clause-one g c =
    omega (arith, ap length c.as_slice.ensures.value, c.in_ok-leaders.ensures.leaders.count, length-map c.args.items.now item_view, c.requires.one)

pub have_one_leader-requires-clause-two : goal.have_one_leader-requires-clause-two
have_one_leader-requires-clause-two g c =
    omega (arith, ap length c.as_slice.ensures.value, c.in_ok-leaders.ensures.leaders.count, length-map c.args.items.now item_view, c.requires.two)

pub returns-then-have_one_leader : goal.returns-then-have_one_leader
returns-then-have_one_leader g c =
    let a = c.args.pair.one in
    let b = c.args.pair.two in
    let lent = c.as_slice.result.now in
    let wide = length-map c.args.items.now item_view in
    let count = c.in_ok-leaders.ensures.leaders.count in
    let P : List ℕ → Type 0 = λ l. get_or l a 0 ≡ get_or l b 0 in
    let same = subst P c.as_slice.ensures.value (eqb-true (get_or lent a 0) (get_or lent b 0) (sym c.have_one_leader.ensures ∙ c.if-have_one_leader.true)) in
    sym (one_leader (item_views c.args.items.now) c.in_ok-leaders.leaders.items a b c.requires.order c.in_ok-leaders.ensures.congruence
    (omega (arith, count, wide, c.requires.one)) (omega (arith, count, wide, c.requires.two)) same)
