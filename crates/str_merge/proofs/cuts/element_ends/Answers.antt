use Rattle.std.proofs.Common.{◌≡◌, [], ◌∷◌, ◌++◌, ◌+◌, ◌*◌, ◌-◌, ◌/◌, map, length, take, drop, arith, ap, sym, ◌∙◌}
use Rattle.std.specs.List.{range_with_len}
use Rattle.lk_base.proofs.Loops.{map_step}
use Rattle.link_sections.specs.MergeSections.{elements}
use Rattle.intern_race.specs.Texts.{cut_texts}
use Rattle.str_merge.proofs.CutTexts.{element_of, last_of, pushed_last, pushed_texts}
use Rattle.str_merge.proofs.cuts.element_ends.Goals as goal

pub loop-i-init : goal.loop-i-init
unfolding cut_texts
loop-i-init c =
    let none : 0 * c.args.size ≡ 0 = omega arith in
    record {
      last = none ∙ sym (ap last_of c.in_ok-ends.ensures.items);
      texts = ap (cut_texts c.args.contents.now) c.in_ok-ends.ensures.items;
    }

pub loop-i-preserved : goal.loop-i-preserved
loop-i-preserved c =
    let bytes = c.args.contents.now in
    let size = c.args.size in
    let i = c.loop-i.i in
    let at = i * size in
    let old = c.loop-i.ends.items in
    let new = c.push.new.self.items in
    let long : at + size - at ≡ size = omega arith in
    let next : (i + 1) * size ≡ at + size = omega arith in
    record {
      last = next ∙ pushed_last old new (at + size) c.in_ok-push.ensures.items;
      texts = map_step (element_of size bytes) i (cut_texts bytes old) (cut_texts bytes new) c.loop-i.invariant.texts
          (pushed_texts bytes old new at (at + size) c.loop-i.invariant.last c.in_ok-push.ensures.items
          ∙ ap (λ n. cut_texts bytes old ++ take n (drop at bytes) ∷ []) long);
    }

pub returns : goal.returns
unfolding elements
returns c =
    let bytes = c.args.contents.now in
    let last = c.loop-i-test.false in
    let most = c.loop-i.auto.i-end in
    let all : c.loop-i.i ≡ length bytes / c.args.size = omega (arith, last, most) in
    c.loop-i.invariant.texts ∙ ap (λ n. map (element_of c.args.size bytes) (range_with_len 0 n)) all
