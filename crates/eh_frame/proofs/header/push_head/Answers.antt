use Rattle.std.proofs.Common.{◌+◌, pos, ◌-ℤ◌, arith}
use Rattle.std.proofs.lemmas.Int.{ints}
use Rattle.eh_frame.specs.Header.{encodings, word}
use Rattle.eh_frame.proofs.TableRows.{head_pushed, word_same}
use Rattle.eh_frame.proofs.header.push_head.Goals as goal

pub returns : goal.returns
returns c =
    let one = c.extend_from_slice.new.self.items in
    let two = c.push_low.new.out.items in
    let three = c.push_low-2.new.out.items in
    head_pushed c.args.out.now.items encodings (word (pos c.args.starts.frames -ℤ pos (c.args.starts.header + 4))) (word (pos c.args.count)) one two three
    c.in_ok-extend_from_slice.ensures.items
    (word_same one two _ (pos c.args.starts.frames -ℤ pos (c.args.starts.header + 4)) c.in_ok-push_low.ensures (omega (arith, ints)))
    (word_same two three _ (pos c.args.count) c.in_ok-push_low-2.ensures (omega (arith, ints)))
