use Rattle.std.proofs.Common.{◌≡◌, ◌+◌, ◌-◌, ℕ, [], ◌∷◌, ◌++◌, length, ap, sym, subst, ◌∙◌, arith, get_or, refl}
use Rattle.std.specs.List.{All, range_with_len, sum_by}
use Rattle.std.proofs.lemmas.List.{get_or_default}
use Rattle.std.proofs.lemmas.List.Elements.{All-append, All-cons, All-nil}
use Rattle.std.proofs.lemmas.List.Sums.{sum_by_push}
use Rattle.lk_base.proofs.Loops.{map_step, range_more}
use Rattle.link_sections.specs.declared.members.Content.TheVariants.{Section}
use Rattle.relax.specs.declared.jumps.Mark.{Mark}
use Rattle.output_sections.specs.declared.rows.Row.{Row}
use Rattle.relax.specs.CallSizes.{first_call, member_at, no_member}
use Rattle.relax.specs.Points.{IsLowMark, mark_at, rooms_before, whole_room}
use Rattle.relax.proofs.PointSteps.{first_more, first_most}
use Rattle.relax.proofs.jumps.marks_of.Goals as goal

pub loop-i-init : goal.loop-i-init
unfolding first_call
loop-i-init c = record {
  marks = c.in_ok-marks.ensures.items;
  low = λ k d lt. absurd (omega (arith, lt, ap length c.in_ok-marks.ensures.items));
  start = refl;
  most = omega arith;
  first = refl;
}

abbrev zero_member : Row
zero_member = record { number = 0; content = Section 0; group = 0; rank = 0; priority = 0; sh_type = 0; flags = 0; size = 0; align = 0 }

abbrev one_mark : (start first : ℕ) → Mark
one_mark start first = record { start = start; first = first }

pub overflow_add-first : goal.overflow_add-first
overflow_add-first c =
    let rows = c.args.rows.now in
    let i = c.loop-i.i in
    omega (arith, c.loop-i.invariant.first, ap length c.row.ensures, first_most rows i (omega (arith, c.loop-i-test.true, c.requires.sound.count)), c.count_of.ensures.few)

pub loop-i-preserved : goal.loop-i-preserved
unfolding mark_at
loop-i-preserved c =
    let ms = c.args.members.now in
    let rows = c.args.rows.now in
    let i = c.loop-i.i in
    let lt = c.loop-i-test.true in
    let is = c.loop-i.invariant in
    let same : get_or ms i zero_member ≡ member_at ms i = get_or_default ms i zero_member no_member lt in
    let pad : c.saturating_sub-pad.result ≡ (member_at ms i).align - 1 = c.saturating_sub-pad.ensures ∙ ap (λ (m : Row). m.align - 1) same in
    let align : (get_or ms i zero_member).align ≡ (member_at ms i).align = ap (λ (m : Row). m.align) same in
    let size : (get_or ms i zero_member).size ≡ (member_at ms i).size = ap (λ (m : Row). m.size) same in
    let mark : record { start = c.loop-i.start + c.saturating_sub-pad.result; first = c.loop-i.first } ≡ mark_at ms rows i =
    ap (λ s. one_mark s c.loop-i.first) (ap (λ n. n + c.saturating_sub-pad.result) is.start ∙ ap (λ n. rooms_before ms i + n) pad)
    ∙ ap (λ n. one_mark (rooms_before ms i + ((member_at ms i).align - 1)) n) is.first in
    let more : rooms_before ms (i + 1) ≡ rooms_before ms i + whole_room ms i =
    ap (sum_by (whole_room ms)) (range_more i) ∙ sum_by_push (whole_room ms) (range_with_len 0 i) i in
    record {
      marks = map_step (mark_at ms rows) i c.loop-i.marks.items c.push.new.self.items is.marks (c.in_ok-push.ensures.items ∙ ap (λ m. c.loop-i.marks.items ++ m ∷ []) mark);
      low = subst (All IsLowMark) (sym c.in_ok-push.ensures.items) (All-append IsLowMark c.loop-i.marks.items (one_mark (c.loop-i.start + c.saturating_sub-pad.result) c.loop-i.first ∷ []) is.low
          (All-cons IsLowMark (one_mark (c.loop-i.start + c.saturating_sub-pad.result) c.loop-i.first) [] (omega (arith, is.most, lt, c.requires.few, c.saturating_sub-pad.type_inv)) (All-nil IsLowMark)));
      start = omega (arith, is.start, c.whole_room-start.ensures.value, align, size, more);
      most = omega (arith, is.most, c.whole_room-start.ensures.few);
      first = omega (arith, is.first, ap length c.row.ensures, first_more rows i);
    }
