use Rattle.std.proofs.Common.{arith}
use Rattle.icf_part.specs.Signatures.{row_bytes, word_bytes}
use Rattle.icf_part.proofs.Collected.{flat_at, flat_all}
use Rattle.icf_part.proofs.words.push_words.Goals as goal

pub loop-i-preserved : goal.loop-i-preserved
loop-i-preserved c = flat_at word_bytes c.args.bytes.now.items c.args.words.now c.loop-i.i 0 c.loop-i.bytes.items c.push_word.new.bytes.items c.loop-i-test.true c.loop-i.invariant c.in_ok-push_word.ensures

pub returns : goal.returns
unfolding row_bytes
returns c = flat_all word_bytes c.args.bytes.now.items c.args.words.now c.loop-i.i c.loop-i.bytes.items (omega arith) c.loop-i.invariant
