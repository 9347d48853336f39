use Rattle.std.proofs.Common.{◌≡◌, ◌∙◌, ◌+◌, ◌-◌, ◌<◌, ◌≤◌, List, length, take, inl, inr, sym, ap, subst, arith, rules}
use Rattle.std.specs.List.{range_with_len}
use Rattle.std.proofs.Math.Seq.{take-length}
use Rattle.std.proofs.lemmas.Bool.{cases_eq}
use Rattle.std.proofs.lemmas.List.{length-map}
use Rattle.link_sections.specs.FoldItems.{FoldItem, item_view, item_views}
use Rattle.why_chain.specs.declared.pairs.Met.{Met}
use Rattle.why_chain.specs.Aparts.{can_match, reloc_count}
use Rattle.why_chain.specs.Meetings.{met_all, met_one, new_pair}
use Rattle.why_chain.proofs.Ends.{front_one, met_end, met_on, no_target, target_first}
use Rattle.why_chain.proofs.FirstChains.{new_within}
use Rattle.why_chain.proofs.Placing.{view_at}
use Rattle.why_chain.proofs.meetings.meet_all.Goals as goal
use Rattle.why_chain.proofs.meetings.meet_all.Goals.{After-len-k-end}

wide : (c : After-len-k-end) → reloc_count (item_views c.args.items.now) c.args.pair ≡ length c.index-items-pair.result.relocs.items
wide c = ap (λ (i : FoldItem). length i.relocs) (view_at c.args.items.now c.args.pair.one c.index-items-pair.result c.requires.one c.index-items-pair.is)

pub loop-k-init : goal.loop-k-init
loop-k-init c =
    let views = item_views c.args.items.now in
    let queue = c.args.queue.now.items in
    let count = reloc_count views c.args.pair in
    let all : count - 0 ≡ count = omega arith in
    record {
      matched = λ j less. absurd (omega arith);
      queued = ap (λ m. met_all (length c.args.items.now) c.args.place (new_pair views c.args.pair) (range_with_len 0 m) queue) all;
      known = c.requires.known;
      front = take-length queue;
    }

pub meet_next-requires-clause-inside : goal.meet_next-requires-clause-inside
meet_next-requires-clause-inside c =
    let items = c.args.items.now in
    new_within (item_views items) c.args.pair c.loop-k.k (length items) (length-map items item_view) c.in-Some.next c.in-Some.ensures.next

pub loop-k-preserved : goal.loop-k-preserved
loop-k-preserved c =
    let items = c.args.items.now in
    let views = item_views items in
    let pair = c.args.pair in
    let place = c.args.place in
    let n = length items in
    let new = new_pair views pair in
    let count = reloc_count views pair in
    let k = c.loop-k.k in
    let old = c.loop-k.queue.items in
    let start = c.args.queue.now.items in
    let inside : k < length c.index-items-pair.result.relocs.items = search rules in
    let step = met_on n place new k count old (omega (arith, inside, wide (goal.at.loop-k-preserved c).After-len-k-end)) in
    let queue = c.in_ok-meet_next.ensures.queue ∙ ap (met_one n place k old) c.in-Some.ensures.next in
    let P : List Met → Type 0 = λ q. take (length start) q ≡ start in
    record {
      matched = λ j less. elim (cases_eq j k) [
        | inl same ↦ ap (can_match views pair) same ∙ sym c.in-Some.ensures.can
        | inr other ↦ c.loop-k.invariant.matched j (omega (arith, less, other))
      ];
      queued = ap (λ q. met_all n place new (range_with_len (k + 1) (count - (k + 1))) q) queue ∙ sym step ∙ c.loop-k.invariant.queued;
      known = c.in_ok-meet_next.ensures.known;
      front = subst P (sym queue) (front_one n place k start old (new k) c.loop-k.invariant.front);
    }

pub returns-in_default-clause-end : goal.returns-in_default-clause-end
returns-in_default-clause-end c =
    let count = wide (goal.at.returns-in_default-clause-end c).After-len-k-end in
    let less : c.loop-k.k < length c.index-items-pair.result.relocs.items = search rules in
    sym (target_first (item_views c.args.items.now) c.args.pair c.loop-k.k (omega (arith, less, count)) c.loop-k.invariant.matched (sym c.in_default.ensures.can))

pub returns-in_default-clause-front : goal.returns-in_default-clause-front
returns-in_default-clause-front c = c.loop-k.invariant.front

pub returns-clause-end : goal.returns-clause-end
returns-clause-end c =
    let count = wide (goal.at.returns-clause-end c).After-len-k-end in
    let past : length c.index-items-pair.result.relocs.items ≤ c.loop-k.k = search rules in
    sym (no_target (item_views c.args.items.now) c.args.pair (λ j less. c.loop-k.invariant.matched j (omega (arith, less, past, count))))

pub returns-clause-queue : goal.returns-clause-queue
returns-clause-queue c =
    let views = item_views c.args.items.now in
    let count = wide (goal.at.returns-clause-queue c).After-len-k-end in
    let past : length c.index-items-pair.result.relocs.items ≤ c.loop-k.k = search rules in
    sym (met_end (length c.args.items.now) c.args.place (new_pair views c.args.pair) c.loop-k.k (reloc_count views c.args.pair) c.loop-k.queue.items (omega (arith, past, count)))
    ∙ c.loop-k.invariant.queued

pub returns-clause-known : goal.returns-clause-known
returns-clause-known c = c.loop-k.invariant.known

pub returns-clause-front : goal.returns-clause-front
returns-clause-front c = c.loop-k.invariant.front
