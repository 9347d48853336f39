use Rattle.std.proofs.Common.{◌==◌, length, get_or, arith}
use Rattle.icf_part.proofs.Counting.{most}
use Rattle.icf_part.proofs.Relabelled.{relabelled_first, relabelled_next}
use Rattle.icf_part.proofs.relabel.relabel.Goals as goal

pub loop-i-init : goal.loop-i-init
loop-i-init c = relabelled_first c.args.labels.now.items c.args.part.now c.args.from c.args.to

pub loop-i-preserved : goal.loop-i-preserved
loop-i-preserved c =
    relabelled_next c.args.labels.now.items c.args.part.now c.args.from c.args.to c.loop-i.i c.requires.apart (omega arith) (c.requires.within c.loop-i.i 0 (omega arith))
    c.loop-i.labels.items c.relabel_one-moved.new.labels.items c.loop-i.moved c.relabel_one-moved.result c.loop-i.invariant c.relabel_one-moved.ensures.labels c.relabel_one-moved.ensures.moved

pub overflow_add-moved : goal.overflow_add-moved
overflow_add-moved c =
    let next = relabelled_next c.args.labels.now.items c.args.part.now c.args.from c.args.to c.loop-i.i c.requires.apart (omega arith) (c.requires.within c.loop-i.i 0 (omega arith))
    c.loop-i.labels.items c.relabel_one-moved.new.labels.items c.loop-i.moved c.relabel_one-moved.result c.loop-i.invariant c.relabel_one-moved.ensures.labels c.relabel_one-moved.ensures.moved in
    let more = next.more in
    let wide = next.wide in
    omega (arith, more, wide, c.requires.few, most (λ a. get_or c.relabel_one-moved.new.labels.items a 0 == c.args.to) (length c.relabel_one-moved.new.labels.items))
