use Rattle.std.proofs.Common.{ap, ◌++◌, ◌∙◌, arith}
use Rattle.intern_race.specs.Texts.{cut_texts}
use Rattle.str_merge.proofs.Gathered.{texts_end, texts_next}
use Rattle.str_merge.proofs.gathering.texts_of.Goals as goal

pub loop-n-preserved : goal.loop-n-preserved
loop-n-preserved c =
    let cut = c.cut_at-cut.result.now in
    texts_next c.args.cuts.now c.args.members.now c.loop-n.n cut c.loop-n.texts _ (omega arith) c.cut_at-cut.ensures.pieces
    (c.in_ok-add_cut.ensures.ok ∙ ap (λ l. c.loop-n.texts ++ cut_texts cut.bytes.now l) c.as_slice.ensures.value) c.loop-n.invariant

pub returns : goal.returns
returns c = texts_end c.args.cuts.now c.args.members.now c.loop-n.n c.loop-n.texts (omega arith) c.loop-n.invariant
