use Rattle.std.proofs.Common.{ℕ, ◌+◌, List, length, sym, ap, ◌∙◌, arith, refl}
use Rattle.str_merge.specs.Sites.{pieces_of, texts_of}
use Rattle.str_merge.proofs.CutTexts.{text_read, texts_count}
use Rattle.str_merge.proofs.PlacedSteps.{part_next, parts_all}
use Rattle.str_merge.proofs.parts.parts_of.Goals as goal

pub end_of-start-requires : goal.end_of-start-requires
end_of-start-requires c =
    let low = c.loop-i.invariant.most in
    let most = c.text_in.ensures.most in
    let len = c.requires.near.len in
    let few = c.requires.few in
    omega (arith, low, most, len, few)

pub loop-i-preserved : goal.loop-i-preserved
loop-i-preserved c =
    let cut = c.args.cut.now in
    let count = texts_count cut in
    let low = c.loop-i.invariant.most in
    let most = c.text_in.ensures.most in
    let len = c.requires.near.len in
    record {
      parts = part_next (texts_of (pieces_of cut)) c.args.numbers.now c.loop-i.i c.loop-i.start c.end_of-start.result c.loop-i.parts.items c.push.new.self.items _
          (omega (arith, count, c.requires.wide)) (omega arith) c.loop-i.invariant.parts c.in_ok-push.ensures.items refl
          (c.end_of-start.ensures ∙ ap (λ (l : List ℕ). c.loop-i.start + length l) (c.text_in.ensures.value ∙ sym (text_read cut c.loop-i.i (omega (arith, c.requires.wide)))));
      most = omega (arith, low, most, len, c.end_of-start.ensures);
    }

pub returns : goal.returns
returns c =
    let cut = c.args.cut.now in
    parts_all (texts_of (pieces_of cut)) c.args.numbers.now c.loop-i.i c.loop-i.start c.loop-i.parts.items (omega (arith, texts_count cut, c.requires.wide)) c.loop-i.invariant.parts
