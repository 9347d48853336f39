use Rattle.std.proofs.Common.{◌++◌, ◌∙◌, ap, append_assoc, arith, flat_map, get_or, take}
use Rattle.std.specs.Int.{to_le_bytes, w64}
use Rattle.eh_frame.specs.Plan.{words_bytes}
use Rattle.eh_frame.proofs.FrameWalks.{lists_all, lists_more}
use Rattle.eh_frame.proofs.cies.push_words.Goals as goal

pub loop-i-preserved : goal.loop-i-preserved
loop-i-preserved c =
    let words = c.args.words.now in
    let i = c.loop-i.i in
    c.in_ok-push_word.ensures ∙ ap (λ l. l ++ to_le_bytes w64 (get_or words i 0)) c.loop-i.invariant
    ∙ append_assoc c.args.text.now.items (flat_map (to_le_bytes w64) (take i words)) (to_le_bytes w64 (get_or words i 0))
    ∙ ap (λ l. c.args.text.now.items ++ l) (lists_more (to_le_bytes w64) words i 0 c.loop-i-test.true)

pub returns-clause-bytes : goal.returns-clause-bytes
unfolding words_bytes
returns-clause-bytes c = c.loop-i.invariant ∙ ap (λ l. c.args.text.now.items ++ l) (lists_all (to_le_bytes w64) c.args.words.now c.loop-i.i (omega arith))
