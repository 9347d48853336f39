use Rattle.std.proofs.Common.{◌-◌, ap, length, sym, ◌∙◌, arith}
use Rattle.str_merge.specs.Sites.{CutPiece, no_piece, piece_lists, pieces_of}
use Rattle.str_merge.proofs.CutTexts.{piece_read, pieces_count}
use Rattle.str_merge.proofs.Gathered.{found_read}
use Rattle.str_merge.proofs.gathering.span_at.Goals as goal

pub span_in-requires-clause-k : goal.span_in-requires-clause-k
span_in-requires-clause-k c =
    let below = c.find-found.ensures.below in
    omega (arith, below, ap length c.cut_at.ensures.pieces, pieces_count c.cut_at.result.now)

pub span_in-requires-clause-near : goal.span_in-requires-clause-near
span_in-requires-clause-near c = c.cut_at.ensures.near c.requires.near

pub returns-clause-span : goal.returns-clause-span
returns-clause-span c =
    let cut = c.cut_at.result.now in
    let k = c.args.i - c.find-found.result.before in
    let below = c.find-found.ensures.below in
    c.span_in.ensures
    ∙ ap (λ (p : CutPiece). p.span) (sym (piece_read cut k no_piece (omega (arith, below, ap length c.cut_at.ensures.pieces, pieces_count cut)))
    ∙ found_read (piece_lists c.args.cuts.now) c.args.members.now c.args.i c.find-found.result (pieces_of cut) no_piece no_piece c.find-found.ensures c.cut_at.ensures.pieces)
