use Rattle.std.proofs.Common.{◌+◌, ◌-◌, ◌++◌, List, length, get_or, drop, ap, sym, ◌∙◌, arith}
use Rattle.std.proofs.lemmas.List.{length-drop, length-take}
use Rattle.link_sections.specs.declared.pieces.Part.{Part}
use Rattle.str_merge.specs.Parts.{lists_at, part_lists, parts_by}
use Rattle.str_merge.specs.Sites.{cut_views, gathered, piece_lists, pieces_of, texts_of}
use Rattle.str_merge.proofs.CutTexts.{pieces_count, texts_count}
use Rattle.str_merge.proofs.Gathered.{counted_next}
use Rattle.str_merge.proofs.PartSteps.{lists_all, lists_next}
use Rattle.str_merge.proofs.PoolFacts.{texts_at}
use Rattle.str_merge.proofs.parts.part_rows.Goals as goal

pub loop-n-init : goal.loop-n-init
loop-n-init c =
    let whole = part_lists (lists_at (cut_views c.args.cuts.now) c.args.members.now) c.as_slice-ranks.result.now in
    record { count = omega arith; rows = ap (λ (l : List (List Part)). l ++ whole) (c.in_ok-reserve.ensures ∙ c.in_ok-rows.ensures) }

pub part-requires-clause-within : goal.part-requires-clause-within
part-requires-clause-within c =
    let lists = piece_lists c.args.cuts.now in
    let cut = c.cut_at-cut.result.now in
    let long = c.len.ensures ∙ cut.ends.ok.0 ∙ sym (pieces_count cut) in
    let wide = ap length c.as_slice-ranks.ensures.value ∙ c.in_ok-ranks.ensures.len ∙ c.requires.wide in
    let next = counted_next lists c.args.members.now c.loop-n.n (length (gathered lists c.args.members.now)) c.loop-n.at (c.loop-n.at + c.len.result) (pieces_of cut)
    (omega arith) c.loop-n.invariant.count c.cut_at-cut.ensures.pieces (ap (λ k. c.loop-n.at + k) long) in
    omega (arith, next, wide)

pub parts_of-requires-clause-wide : goal.parts_of-requires-clause-wide
parts_of-requires-clause-wide c =
    let lists = piece_lists c.args.cuts.now in
    let cut = c.cut_at-cut.result.now in
    let at = c.loop-n.at in
    let own = c.len.ensures ∙ cut.ends.ok.0 in
    let wide = ap length c.as_slice-ranks.ensures.value ∙ c.in_ok-ranks.ensures.len ∙ c.requires.wide in
    let next = counted_next lists c.args.members.now c.loop-n.n (length (gathered lists c.args.members.now)) at (at + c.len.result) (pieces_of cut)
    (omega arith) c.loop-n.invariant.count c.cut_at-cut.ensures.pieces (ap (λ k. at + k) (own ∙ sym (pieces_count cut))) in
    let taken = ap length c.part.ensures ∙ length-take (at + c.len.result - at) (drop at c.as_slice-ranks.result.now) in
    omega (arith, own, next, wide, taken, length-drop at c.as_slice-ranks.result.now)

pub parts_of-requires-clause-few : goal.parts_of-requires-clause-few
parts_of-requires-clause-few c =
    let at = c.loop-n.at in
    let wide = ap length c.as_slice-ranks.ensures.value ∙ c.in_ok-ranks.ensures.len in
    let taken = ap length c.part.ensures ∙ length-take (at + c.len.result - at) (drop at c.as_slice-ranks.result.now) in
    omega (arith, wide, taken, length-drop at c.as_slice-ranks.result.now, c.requires.few)

pub parts_of-requires-clause-near : goal.parts_of-requires-clause-near
parts_of-requires-clause-near c = c.cut_at-cut.ensures.near c.requires.near

pub loop-n-preserved : goal.loop-n-preserved
loop-n-preserved c =
    let cuts = c.args.cuts.now in
    let lists = piece_lists cuts in
    let views = cut_views cuts in
    let cut = c.cut_at-cut.result.now in
    let at = c.loop-n.at in
    let end = at + c.len.result in
    let long = c.len.ensures ∙ cut.ends.ok.0 in
    let whole = part_lists (lists_at views c.args.members.now) c.as_slice-ranks.result.now in
    record {
      count = counted_next lists c.args.members.now c.loop-n.n (length (gathered lists c.args.members.now)) at end (pieces_of cut)
          (omega arith) c.loop-n.invariant.count c.cut_at-cut.ensures.pieces (ap (λ k. at + k) (long ∙ sym (pieces_count cut)));
      rows = lists_next views c.args.members.now c.loop-n.n at end (texts_of (pieces_of cut)) c.as_slice-ranks.result.now c.loop-n.rows c.push_vec.new.self whole c.in_ok-parts.parts.items
          (omega arith) (ap texts_of c.cut_at-cut.ensures.pieces ∙ texts_at cuts (get_or c.args.members.now c.loop-n.n 0)) (ap (λ k. at + k) (long ∙ sym (texts_count cut)))
          c.loop-n.invariant.rows c.in_ok-push_vec.ensures.ok
          (c.in_ok-parts.ensures ∙ ap (parts_by 0 (texts_of (pieces_of cut))) c.part.ensures);
    }

pub returns : goal.returns
returns c = λ first.
    let lists = lists_at (cut_views c.args.cuts.now) c.args.members.now in
    let ranks = c.as_slice-ranks.result.now in
    lists_all (cut_views c.args.cuts.now) c.args.members.now c.loop-n.n (drop c.loop-n.at ranks) c.loop-n.rows (part_lists lists ranks) (omega arith) c.loop-n.invariant.rows
    ∙ ap (part_lists lists) (c.as_slice-ranks.ensures.value ∙ c.in_ok-ranks.ensures.value first)
