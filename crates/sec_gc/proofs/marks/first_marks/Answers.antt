use Rattle.std.proofs.Common.{arith, ℕ, Bool, List, [], ◌∷◌, ◌++◌, ◌==◌, ap, ◌∙◌, rules}
use Rattle.std.specs.Slots.{slots_items, slots_counts}
use Rattle.sec_gc.proofs.Closings.{marks_more, read_at}
use Rattle.sec_gc.proofs.marks.first_marks.Goals as goal

pub loop-section-preserved : goal.loop-section-preserved
loop-section-preserved c =
    let words = slots_items c.args.closed.now.words in
    let i : ℕ = c.loop-section.section in
    let read = read_at words i c.word.result c.word.ensures in
    let pushed = c.push_reserved.ensures in
    let counts = slots_counts c.args.closed.now.words in
    let enough = c.requires.count in
    let inv = c.loop-section.invariant in record {
      copied = pushed.items ∙ ap (λ (l : List Bool). l ++ (c.word.result == 1) ∷ []) inv.copied ∙ marks_more words i c.word.result read (omega arith);
      length = omega arith;
      room = search rules;
    }
