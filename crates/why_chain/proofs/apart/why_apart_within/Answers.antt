use Rattle.std.proofs.Common.{◌≡◌, ◌∙◌, ◌+◌, ◌*◌, ◌<◌, ℕ, Some, List, length, refl, sym, ap, subst, inr, arith}
use Rattle.std.specs.List.{range_with_len}
use Rattle.std.proofs.lemmas.Bool.{true≢false}
use Rattle.std.proofs.lemmas.List.{length-map}
use Rattle.link_sections.specs.FoldItems.{item_view, item_views}
use Rattle.why_chain.specs.declared.pairs.Met.{Met}
use Rattle.why_chain.specs.declared.pairs.Pair.{Pair}
use Rattle.why_chain.specs.Aparts.{chain, first_end, reloc_count, two_items}
use Rattle.why_chain.specs.Meetings.{met_all, met_one, new_pair, places_of, vias_of}
use Rattle.why_chain.specs.Visits.{AreWords}
use Rattle.why_chain.proofs.Ends.{if_none, on_some}
use Rattle.why_chain.proofs.Exhausted.{apart_or_folded, folded_met}
use Rattle.why_chain.proofs.Living.{at}
use Rattle.why_chain.proofs.Meets.{pair_at}
use Rattle.why_chain.proofs.Parting.{IsApartAt, apart_begins, apart_found, apart_is, apart_more, apart_none, few_met}
use Rattle.why_chain.proofs.apart.why_apart_within.Goals as goal
use Rattle.why_chain.proofs.apart.why_apart_within.Goals.{After-pair_at-pair, In_ok-vias}

pub loop-place-init : goal.loop-place-init
loop-place-init c =
    let items = c.args.items.now in
    let wide = length-map items item_view in
    record {
      search = apart_begins (item_views items) c.args.a c.args.b c.meet.new.queue.items (omega (arith, c.requires.one, wide)) (omega (arith, c.requires.two, wide))
          (c.in_ok-meet.ensures.queue ∙ ap (λ q. met_one (length items) 0 0 q (Some (two_items c.args.a c.args.b))) c.new-queue.ensures.items);
      known = c.in_ok-meet.ensures.known;
    }

-- the place is one of the queue, and the pair is what stands there
inside : (c : After-pair_at-pair) → c.loop-place.place < length c.loop-place.queue.items
inside c =
    let ok = c.loop-place.queue.ok in
    let test = c.loop-place-test.true in
    let len = c.len.ensures in
    omega arith

pair_is : (c : After-pair_at-pair) → c.pair_at-pair.result ≡ pair_at c.loop-place.queue.items c.loop-place.place
pair_is c = c.pair_at-pair.ensures ∙ ap (λ q. pair_at q c.loop-place.place) c.as_slice.ensures.value

one_low : (c : After-pair_at-pair) → c.pair_at-pair.result.one < length c.args.items.now
one_low c =
    let low = c.loop-place.invariant.search.low c.loop-place.place (inside c) in
    omega (arith, low.0, ap (λ (p : Pair). p.one) (pair_is c), length-map c.args.items.now item_view)

two_low : (c : After-pair_at-pair) → c.pair_at-pair.result.two < length c.args.items.now
two_low c =
    let low = c.loop-place.invariant.search.low c.loop-place.place (inside c) in
    omega (arith, low.1, ap (λ (p : Pair). p.two) (pair_is c), length-map c.args.items.now item_view)

pub pair_at-pair-requires : goal.pair_at-pair-requires
pair_at-pair-requires c =
    let ok = c.loop-place.queue.ok in
    let test = c.loop-place-test.true in
    let len = c.len.ensures in
    omega (arith, ap length c.as_slice.ensures.value)

pub vias_to-requires-clause-place : goal.vias_to-requires-clause-place
vias_to-requires-clause-place c =
    let ok = c.loop-place.queue.ok in
    let test = c.loop-place-test.true in
    let len = c.len.ensures in
    let stays = c.as_slice-in-Some.ensures.value ∙ on_some _ c.in_ok-end.end c.in-Some.last c.in-Some.is c.in_ok-end.ensures.stays in
    omega (arith, ap length stays)

pub vias_to-requires-clause-earlier : goal.vias_to-requires-clause-earlier
vias_to-requires-clause-earlier c = λ i pos less.
    let stays = c.as_slice-in-Some.ensures.value ∙ on_some _ c.in_ok-end.end c.in-Some.last c.in-Some.is c.in_ok-end.ensures.stays in
    let own = ap (λ q. at (places_of q) i) stays in
    let early = c.loop-place.invariant.search.search.earlier i pos (omega (arith, less, ap length stays)) in
    omega (arith, own, early)

-- the queue stays where the pair has an end, and the relocations are what leads to the place
vias_are : (c : In_ok-vias) → (word : ℕ → List ℕ) → AreWords (vias_of c.loop-place.queue.items) (places_of c.loop-place.queue.items) word → c.in_ok-vias.vias.items ≡ word c.loop-place.place
vias_are c =
    let P : List Met → Type 0 = λ q. (word : ℕ → List ℕ) → AreWords (vias_of q) (places_of q) word → c.in_ok-vias.vias.items ≡ word c.loop-place.place in
    subst P (c.as_slice-in-Some.ensures.value ∙ on_some _ c.in_ok-end.end c.in-Some.last c.in-Some.is c.in_ok-end.ensures.stays) c.in_ok-vias.ensures

pub returns-in-Some-clause-chain : goal.returns-in-Some-clause-chain
returns-in-Some-clause-chain c =
    let p = (goal.at.returns-in-Some-clause-chain c).After-pair_at-pair in
    let views = item_views c.args.items.now in
    apart_is views c.requires.order c.args.a c.args.b c.loop-place.queue.items c.loop-place.place c.loop-place.invariant.search (inside p) c.in-Some.last
    (ap (first_end views) (sym (pair_is p)) ∙ sym c.in_ok-end.ensures.end ∙ c.in-Some.is) c.in_ok-vias.vias.items (vias_are (goal.at.returns-in-Some-clause-chain c).In_ok-vias)

pub returns-in-Some-clause-least : goal.returns-in-Some-clause-least
returns-in-Some-clause-least c =
    let p = (goal.at.returns-in-Some-clause-least c).After-pair_at-pair in
    let views = item_views c.args.items.now in
    apart_found views c.requires.order c.args.a c.args.b c.loop-place.queue.items c.loop-place.place c.loop-place.invariant.search (inside p) c.in-Some.last
    (ap (first_end views) (sym (pair_is p)) ∙ sym c.in_ok-end.ensures.end ∙ c.in-Some.is) c.in_ok-vias.vias.items (vias_are (goal.at.returns-in-Some-clause-least c).In_ok-vias)

pub returns-in-Some-clause-given : goal.returns-in-Some-clause-given
returns-in-Some-clause-given c =
    let p = (goal.at.returns-in-Some-clause-given c).After-pair_at-pair in
    let views = item_views c.args.items.now in
    let found = apart_found views c.requires.order c.args.a c.args.b c.loop-place.queue.items c.loop-place.place c.loop-place.invariant.search (inside p) c.in-Some.last
    (ap (first_end views) (sym (pair_is p)) ∙ sym c.in_ok-end.ensures.end ∙ c.in-Some.is) c.in_ok-vias.vias.items (vias_are (goal.at.returns-in-Some-clause-given c).In_ok-vias) in
    (λ e. absurd (true≢false e), λ stands. absurd (apart_or_folded views c.args.a c.args.b (chain c.in_ok-vias.vias.items c.in-Some.last) c.requires.order found.apart stands))

pub meet_or_end-requires-clause-one : goal.meet_or_end-requires-clause-one
meet_or_end-requires-clause-one c = one_low (goal.at.meet_or_end-requires-clause-one c).After-pair_at-pair

pub meet_or_end-requires-clause-two : goal.meet_or_end-requires-clause-two
meet_or_end-requires-clause-two c = two_low (goal.at.meet_or_end-requires-clause-two c).After-pair_at-pair

pub loop-place-smaller : goal.loop-place-smaller
loop-place-smaller c =
    let items = c.args.items.now in
    let views = item_views items in
    let wide = length-map items item_view in
    let ok = c.loop-place.queue.ok in
    let test = c.loop-place-test.true in
    let len = c.len.ensures in
    let few = few_met views c.requires.order c.args.a c.args.b c.loop-place.queue.items c.loop-place.place c.loop-place.invariant.search in
    let square = ap (λ n. n * n) wide in
    omega (arith, few, square)

pub loop-place-preserved : goal.loop-place-preserved
loop-place-preserved c =
    let p = (goal.at.loop-place-preserved c).After-pair_at-pair in
    let items = c.args.items.now in
    let views = item_views items in
    let queue = c.loop-place.queue.items in
    let place = c.loop-place.place in
    let none = ap (first_end views) (sym (pair_is p)) ∙ sym c.in_ok-end.ensures.end ∙ c.in_default.is in
    let next = if_none _ c.in_ok-end.end c.in_default.is c.in_ok-end.ensures.queue
    ∙ ap (λ q. met_all (length items) place (new_pair views q) (range_with_len 0 (reloc_count views q)) queue) (pair_is p)
    ∙ ap (λ n. met_all n place (new_pair views (pair_at queue place)) (range_with_len 0 (reloc_count views (pair_at queue place))) queue) (sym (length-map items item_view)) in
    let P : List Met → Type 0 = λ q. IsApartAt views c.args.a c.args.b q (place + 1) in
    record {
      search = subst P (sym next) (apart_more views c.requires.order c.args.a c.args.b queue place c.loop-place.invariant.search (inside p) none);
      known = if_none _ c.in_ok-end.end c.in_default.is c.in_ok-end.ensures.known;
    }

pub returns-clause-chain : goal.returns-clause-chain
returns-clause-chain c =
    let ok = c.loop-place.queue.ok in
    let test = c.loop-place-test.false in
    let len = c.len.ensures in
    apart_none (item_views c.args.items.now) c.requires.order c.args.a c.args.b c.loop-place.queue.items c.loop-place.place c.loop-place.invariant.search (omega arith)

pub returns-clause-given : goal.returns-clause-given
returns-clause-given c =
    let ok = c.loop-place.queue.ok in
    let test = c.loop-place-test.false in
    let len = c.len.ensures in
    (λ e. inr (folded_met (item_views c.args.items.now) c.args.a c.args.b c.loop-place.queue.items c.loop-place.place c.loop-place.invariant.search (omega arith)), λ stands. refl)

-- there are more pairs than were looked at
pub returns-then-place-most-clause-many : goal.returns-then-place-most-clause-many
returns-then-place-most-clause-many c = λ none.
    let items = c.args.items.now in
    let wide = length-map items item_view in
    let ok = c.loop-place.queue.ok in
    let test = c.loop-place-test.true in
    let len = c.len.ensures in
    let few = few_met (item_views items) c.requires.order c.args.a c.args.b c.loop-place.queue.items c.loop-place.place c.loop-place.invariant.search in
    let square = ap (λ n. n * n) wide in
    omega (arith, few, square, c.if-place-most.true)

pub returns-in-Some-clause-many : goal.returns-in-Some-clause-many
returns-in-Some-clause-many c = λ none. absurd (true≢false none)

pub returns-clause-many : goal.returns-clause-many
returns-clause-many c = λ none. absurd (true≢false none)
