use Rattle.std.proofs.Common.{get_or, ap, ◌∙◌, arith}
use Rattle.lk_tables.specs.declared.spans.Span.{Span}
use Rattle.str_merge.specs.Sites.{gathered, piece_lists}
use Rattle.str_merge.proofs.PlacedSteps.{adds_all, adds_more, adds_none}
use Rattle.str_merge.proofs.PoolFacts.{span_len, span_most}
use Rattle.str_merge.proofs.placing.place_more.Goals as goal

pub loop-n-init : goal.loop-n-init
loop-n-init c = record {
  placed = adds_none (gathered (piece_lists c.args.cuts.now) c.args.members.now) c.args.indexes.now c.args.align c.args.placed.now;
  place = c.requires.place;
  most = omega arith;
}

pub up-position-requires-clause-room : goal.up-position-requires-clause-room
up-position-requires-clause-room c =
    let low = c.loop-n.invariant.most in
    omega (arith, low, c.requires.room, c.requires.most)

pub span_at-text-requires-clause-there : goal.span_at-text-requires-clause-there
span_at-text-requires-clause-there c = c.requires.within _ 0 (omega arith)

pub end_of-placed-requires : goal.end_of-placed-requires
end_of-placed-requires c =
    let at = get_or c.args.indexes.now c.loop-n.n 0 in
    let low = c.loop-n.invariant.most in
    let bound = c.up-position.ensures.bound in
    let short = span_most c.args.cuts.now c.args.members.now at c.requires.near in
    omega (arith, low, bound, short, ap (λ (s : Span). s.len) c.span_at-text.ensures.span, c.requires.room, c.requires.most)

pub loop-n-preserved : goal.loop-n-preserved
loop-n-preserved c =
    let pieces = gathered (piece_lists c.args.cuts.now) c.args.members.now in
    let at = get_or c.args.indexes.now c.loop-n.n 0 in
    let low = c.loop-n.invariant.most in
    let bound = c.up-position.ensures.bound in
    let short = span_most c.args.cuts.now c.args.members.now at c.requires.near in
    record {
      placed = adds_more pieces c.args.indexes.now c.loop-n.n c.args.align c.args.placed.now c.loop-n.placed (record { pieces = c.push.new.self; size = c.end_of-placed.result }) _
          c.requires.align (omega arith) c.loop-n.invariant.placed c.in_ok-push.ensures.items
          c.span_at-text.ensures.span (ap (λ (s : Span). s.len) c.span_at-text.ensures.span ∙ span_len c.args.cuts.now c.args.members.now at)
          c.up-position.ensures.value c.end_of-placed.ensures;
      place = c.span_at-text.ensures.place;
      most = omega (arith, low, bound, short, ap (λ (s : Span). s.len) c.span_at-text.ensures.span, c.end_of-placed.ensures, c.requires.most);
    }

pub returns-clause-placed : goal.returns-clause-placed
returns-clause-placed c =
    adds_all (gathered (piece_lists c.args.cuts.now) c.args.members.now) c.args.indexes.now c.loop-n.n c.args.align c.args.placed.now c.loop-n.placed (omega arith) c.loop-n.invariant.placed

pub returns-clause-most : goal.returns-clause-most
returns-clause-most c =
    let low = c.loop-n.invariant.most in
    omega (arith, low)
