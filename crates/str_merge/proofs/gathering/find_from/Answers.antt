use Rattle.std.proofs.Common.{◌+◌, length, ap, sym, ◌∙◌, arith}
use Rattle.str_merge.specs.Sites.{piece_lists, pieces_of}
use Rattle.str_merge.proofs.CutTexts.{pieces_count}
use Rattle.str_merge.proofs.Gathered.{not_past, place_next}
use Rattle.str_merge.proofs.gathering.find_from.Goals as goal

pub returns-then-i-before : goal.returns-then-i-before
returns-then-i-before c =
    let cut = c.cut_at.result.now in
    let long = c.len-len.ensures ∙ cut.ends.ok.0 ∙ sym (pieces_count cut) in
    let test = c.if-i-before.true in
    record {
      place = c.loop-section.invariant.0;
      within = omega arith;
      from = c.loop-section.invariant.1;
      below = omega (arith, test, long, ap length c.cut_at.ensures.pieces);
    }

pub loop-section-preserved : goal.loop-section-preserved
loop-section-preserved c =
    let cut = c.cut_at.result.now in
    let long = c.len-len.ensures ∙ cut.ends.ok.0 ∙ sym (pieces_count cut) in (
      place_next (piece_lists c.args.cuts.now) c.args.members.now c.loop-section.section c.loop-section.before (c.loop-section.before + c.len-len.result) (pieces_of cut)
          (omega arith) c.loop-section.invariant.0 c.cut_at.ensures.pieces (ap (λ k. c.loop-section.before + k) long),
      omega (arith, c.loop-section.invariant.1),
    )

pub unreachable-requires : goal.unreachable-requires
unreachable-requires c =
    not_past (piece_lists c.args.cuts.now) c.args.members.now c.loop-section.section c.loop-section.before c.args.i (omega arith)
    c.loop-section.invariant.0 c.loop-section.invariant.1 c.requires.there
