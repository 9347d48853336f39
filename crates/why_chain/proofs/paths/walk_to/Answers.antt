use Rattle.std.proofs.Common.{◌∙◌, ◌<◌, arith}
use Rattle.why_chain.proofs.Unwinding.{back_ends, back_more}
use Rattle.why_chain.proofs.paths.walk_to.Goals as goal

pub loop-at-preserved : goal.loop-at-preserved
loop-at-preserved c =
    let sections = c.args.sections.now in
    let froms = c.args.froms.now in
    let k = c.loop-at.at in
    let inside = c.loop-at.invariant.inside in
    let some = c.loop-at-test.true in
    let pos : 0 < k = omega arith in
    let early = c.requires.earlier k pos inside in
    record {
      inside = omega (arith, early);
      back = back_more sections froms c.args.place k c.loop-at.walk.items c.push.new.self.items pos inside c.loop-at.invariant.back c.in_ok-push.ensures.items;
    }

pub returns : goal.returns
returns c = λ word are.
    let none = c.loop-at-test.false in
    c.reverse.ensures.items ∙ back_ends c.args.sections.now c.args.froms.now c.args.place c.loop-at.at c.loop-at.walk.items (omega arith) c.loop-at.invariant.back word are
