use Rattle.std.proofs.Common.{◌+◌, length, ap, sym, ◌∙◌, arith}
use Rattle.str_merge.specs.Sites.{gathered, piece_lists, pieces_of}
use Rattle.str_merge.proofs.CutTexts.{pieces_count}
use Rattle.str_merge.proofs.Gathered.{counted_all, counted_next}
use Rattle.str_merge.proofs.gathering.count_of.Goals as goal

pub loop-n-preserved : goal.loop-n-preserved
loop-n-preserved c =
    let lists = piece_lists c.args.cuts.now in
    let cut = c.cut_at.result.now in
    counted_next lists c.args.members.now c.loop-n.n (length (gathered lists c.args.members.now)) c.loop-n.count c.sum_of-count.result (pieces_of cut)
    (omega arith) c.loop-n.invariant c.cut_at.ensures.pieces
    (c.sum_of-count.ensures ∙ ap (λ k. c.loop-n.count + k) (c.len.ensures ∙ cut.ends.ok.0 ∙ sym (pieces_count cut)))

pub sum_of-count-requires : goal.sum_of-count-requires
sum_of-count-requires c =
    let lists = piece_lists c.args.cuts.now in
    let cut = c.cut_at.result.now in
    let next = counted_next lists c.args.members.now c.loop-n.n (length (gathered lists c.args.members.now)) c.loop-n.count (c.loop-n.count + c.len.result) (pieces_of cut)
    (omega arith) c.loop-n.invariant c.cut_at.ensures.pieces (ap (λ k. c.loop-n.count + k) (c.len.ensures ∙ cut.ends.ok.0 ∙ sym (pieces_count cut))) in
    let few = c.requires.few in
    omega (arith, next, few)

pub returns : goal.returns
returns c =
    let lists = piece_lists c.args.cuts.now in
    counted_all lists c.args.members.now c.loop-n.n (length (gathered lists c.args.members.now)) c.loop-n.count (omega arith) c.loop-n.invariant
