use Rattle.std.proofs.Common.{◌∙◌, ◌<◌, ◌++◌, ◌∷◌, [], ℕ, List, sym, ap, subst, arith}
use Rattle.why_chain.specs.Meetings.{places_of, vias_of}
use Rattle.why_chain.proofs.Parting.{place_at, places_wide, via_at}
use Rattle.why_chain.proofs.Unwinding.{IsBack, back_ends, back_more, back_starts}
use Rattle.why_chain.proofs.paths.vias_to.Goals as goal

pub loop-at-init : goal.loop-at-init
loop-at-init c =
    let P : List ℕ → Type 0 = IsBack (vias_of c.args.queue.now) (places_of c.args.queue.now) c.args.place c.args.place in
    record {
      inside = c.requires.place;
      back = subst P (sym c.new-vias.ensures.items) (back_starts (vias_of c.args.queue.now) (places_of c.args.queue.now) c.args.place);
    }

pub loop-at-smaller : goal.loop-at-smaller
loop-at-smaller c =
    let queue = c.args.queue.now in
    let k = c.loop-at.at in
    let inside = c.loop-at.invariant.inside in
    let some = c.loop-at-test.true in
    let pos : 0 < k = omega arith in
    let early = c.requires.earlier k pos inside in
    let own = place_at queue k inside in
    omega (arith, early, own)

pub loop-at-preserved : goal.loop-at-preserved
loop-at-preserved c =
    let queue = c.args.queue.now in
    let vias = vias_of queue in
    let places = places_of queue in
    let k = c.loop-at.at in
    let inside = c.loop-at.invariant.inside in
    let some = c.loop-at-test.true in
    let pos : 0 < k = omega arith in
    let early = c.requires.earlier k pos inside in
    let own = place_at queue k inside in
    let via = via_at queue k inside in
    let P : ℕ → Type 0 = λ n. IsBack vias places c.args.place n c.push.new.self.items in
    record {
      inside = omega (arith, early, own);
      back = subst P own (back_more vias places c.args.place k c.loop-at.vias.items c.push.new.self.items pos (omega (arith, inside, places_wide queue)) c.loop-at.invariant.back
          (c.in_ok-push.ensures.items ∙ ap (λ x. c.loop-at.vias.items ++ x ∷ []) (sym via)));
    }

pub returns : goal.returns
returns c = λ word are.
    let none = c.loop-at-test.false in
    c.reverse.ensures.items ∙ back_ends (vias_of c.args.queue.now) (places_of c.args.queue.now) c.args.place c.loop-at.at c.loop-at.vias.items (omega arith) c.loop-at.invariant.back word are
