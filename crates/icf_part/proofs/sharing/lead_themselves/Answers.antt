use Rattle.std.proofs.Common.{◌≤◌, ◌+◌, ℕ, drop, length, sym, ap, ◌∙◌, arith}
use Rattle.std.proofs.lemmas.List.{drop_all, drop_more}
use Rattle.icf_part.specs.Chosen.{own_leading}
use Rattle.icf_part.proofs.sharing.lead_themselves.Goals as goal

pub loop-i-preserved : goal.loop-i-preserved
loop-i-preserved c =
    let sections = c.args.sections.now in
    let i : ℕ = c.loop-i.i in
    ap (own_leading (drop (i + 1) sections)) c.lead_itself.ensures
    ∙ ap (λ ns. own_leading ns c.loop-i.leaders.items) (sym (drop_more sections i 0 c.loop-i-test.true)) ∙ c.loop-i.invariant

pub returns : goal.returns
returns c =
    let past : length c.args.sections.now ≤ c.loop-i.i = omega (arith, c.loop-i-test.false) in
    sym (ap (λ ns. own_leading ns c.loop-i.leaders.items) (drop_all c.loop-i.i c.args.sections.now past)) ∙ c.loop-i.invariant
