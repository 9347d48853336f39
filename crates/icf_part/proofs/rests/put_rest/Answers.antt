use Rattle.std.proofs.Common.{[], ◌∷◌, length, arith}
use Rattle.icf_part.specs.Signatures.{rest_words, rest_words_of}
use Rattle.icf_part.proofs.Collected.{flat_more, flat_all}
use Rattle.icf_part.proofs.rests.put_rest.Goals as goal

pub loop-k-preserved : goal.loop-k-preserved
loop-k-preserved c =
    let i = c.args.item.now in
    flat_more (rest_words_of c.args.sections.now) (c.args.key ∷ length c.args.ends.now ∷ []) i.relocs.items c.loop-k.k c.index.result.now c.loop-k.words.items c.push_target.new.words.items
    (omega (arith, c.loop-k-test.true, c.len-k-end.ensures)) c.index.ensures c.loop-k.invariant c.in_ok-push_target.ensures

pub returns : goal.returns
unfolding rest_words
returns c =
    let i = c.args.item.now in
    flat_all (rest_words_of c.args.sections.now) (c.args.key ∷ length c.args.ends.now ∷ []) i.relocs.items c.loop-k.k c.loop-k.words.items (omega arith) c.loop-k.invariant
