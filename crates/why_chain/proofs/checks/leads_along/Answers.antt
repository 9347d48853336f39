use Rattle.std.proofs.Common.{◌≡◌, ◌∙◌, ◌-◌, ◌<◌, ◌==◌, length, get_or, sym, ap, arith, rules}
use Rattle.link_sections.specs.Edges.{ends_of}
use Rattle.lk_base.specs.RelocKinds.{is_among}
use Rattle.why_chain.proofs.Checking.{walk_last, walk_off, walk_on}
use Rattle.why_chain.proofs.checks.leads_along.Goals as goal

pub loop-i-preserved : goal.loop-i-preserved
loop-i-preserved c =
    let sections = c.args.sections.now in
    let i = c.loop-i.i in
    let less : i < length sections = search rules in
    record {
      some = omega (arith, c.loop-i.invariant.some);
      rest = walk_on (ends_of c.args.edges.now) c.args.target sections i less
          (ap (λ l. is_among l (get_or sections i 0)) (sym c.ends.ensures.value) ∙ sym c.is_in.ensures ∙ c.if-not-is_in.false)
          ∙ c.loop-i.invariant.rest;
    }

pub returns-then-not-is_in : goal.returns-then-not-is_in
returns-then-not-is_in c =
    let sections = c.args.sections.now in
    let i = c.loop-i.i in
    let less : i < length sections = search rules in
    sym (sym c.loop-i.invariant.rest ∙ walk_off (ends_of c.args.edges.now) c.args.target sections i less
    (ap (λ l. is_among l (get_or sections i 0)) (sym c.ends.ensures.value) ∙ sym c.is_in.ensures ∙ c.if-not-is_in.true))

pub returns : goal.returns
returns c =
    let sections = c.args.sections.now in
    let i = c.loop-i.i in
    let here : i ≡ length sections = search (rules, arith) in
    ap (λ k. get_or sections (k - 1) 0 == c.args.target) (sym here) ∙ sym (walk_last (ends_of c.args.edges.now) c.args.target sections i (omega (arith, here))) ∙ c.loop-i.invariant.rest
