use Rattle.std.proofs.Common.{ap, sym, ◌∙◌, arith, length, get_or}
use Rattle.std.proofs.lemmas.List.{get_or-replicate, length-replicate}
use Rattle.relax.proofs.Places.{noted_all, noted_more, seen_first}
use Rattle.relax.proofs.calls.places_of.Goals as goal

pub loop-i-init : goal.loop-i-init
loop-i-init c =
    let ms = c.args.members.now in
    let is = c.in_ok-places.ensures.items_if_clones_equal (λ y h. h) in
    record {
      length_is = ap length is ∙ length-replicate c.args.count (length ms);
      each = λ n lt. ap (λ l. get_or l n 0) is ∙ get_or-replicate c.args.count n (length ms) 0 lt ∙ sym (seen_first ms n);
    }

pub loop-i-preserved : goal.loop-i-preserved
loop-i-preserved c = noted_more c.args.members.now c.args.count c.loop-i.i _ c.loop-i.places.items c.note_place.new.places.items c.loop-i-test.true c.loop-i.invariant c.note_place.ensures

pub returns : goal.returns
returns c = noted_all c.args.members.now c.args.count c.loop-i.i c.loop-i.places.items c.loop-i.invariant (omega (arith, c.loop-i-test.false))
