use Rattle.std.proofs.Common.{◌≡◌, ◌∙◌, ◌<◌, ◌≤◌, length, inl, sym, ap, rules}
use Rattle.link_sections.specs.FoldItems.{item_views}
use Rattle.why_chain.specs.Aparts.{is_apart_by, two_items}
use Rattle.why_chain.proofs.Apartness.{no_congruence}
use Rattle.why_chain.proofs.Checking.{pair_last, pair_none, pair_on}
use Rattle.why_chain.proofs.checks.check_apart.Goals as goal
use Rattle.why_chain.proofs.checks.check_apart.Goals.{After-is_end}

pub loop-i-init : goal.loop-i-init
loop-i-init c = record {
  one = c.requires.one;
  two = c.requires.two;
  rest = ap (λ l. is_apart_by (item_views c.args.items.now) c.args.chain.now.last l (two_items c.args.a c.args.b)) c.as_slice-vias.ensures.value;
}

pub loop-i-preserved : goal.loop-i-preserved
loop-i-preserved c =
    let views = item_views c.args.items.now in
    let vias = c.as_slice-vias.result.now in
    let i = c.loop-i.i in
    let less : i < length vias = search rules in
    record {
      one = c.in-Some.ensures.within.0;
      two = c.in-Some.ensures.within.1;
      rest = pair_on views c.args.chain.now.last vias i c.loop-i.pair c.in-Some.next less (sym c.in-Some.ensures.pair) ∙ c.loop-i.invariant.rest;
    }

pub returns-in_default-clause-exact : goal.returns-in_default-clause-exact
returns-in_default-clause-exact c =
    let views = item_views c.args.items.now in
    let vias = c.as_slice-vias.result.now in
    let less : c.loop-i.i < length vias = search rules in
    sym (sym c.loop-i.invariant.rest ∙ pair_none views c.args.chain.now.last vias c.loop-i.i c.loop-i.pair less (sym c.in_default.ensures.pair))

-- the last pair differs so exactly if all is such a chain
is_exact : (c : After-is_end) → c.is_end.result ≡ is_apart_by (item_views c.args.items.now) c.args.chain.now.last c.args.chain.now.vias.items (two_items c.args.a c.args.b)
is_exact c =
    let vias = c.as_slice-vias.result.now in
    let past : length vias ≤ c.loop-i.i = search rules in
    c.is_end.ensures ∙ sym (pair_last (item_views c.args.items.now) c.args.chain.now.last vias c.loop-i.i c.loop-i.pair past) ∙ c.loop-i.invariant.rest

pub returns-clause-exact : goal.returns-clause-exact
returns-clause-exact c = is_exact (goal.at.returns-clause-exact c).After-is_end

pub returns-clause-sound : goal.returns-clause-sound
returns-clause-sound c = λ e pairs congruence has.
    no_congruence (item_views c.args.items.now) c.requires.order pairs congruence c.args.chain.now.last c.args.chain.now.vias.items (two_items c.args.a c.args.b)
    (sym (is_exact (goal.at.returns-clause-sound c).After-is_end) ∙ e) (inl has)
