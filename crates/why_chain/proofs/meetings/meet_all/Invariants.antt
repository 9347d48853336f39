use Rattle.std.proofs.Common.{◌≡◌, ℕ, ◌-◌, ◌<◌, true, length, take}
use Rattle.std.specs.List.{range_with_len}
use Rattle.link_sections.specs.FoldItems.{item_views}
use Rattle.why_chain.specs.Aparts.{can_match, reloc_count}
use Rattle.why_chain.specs.Meetings.{codes_of, met_all, new_pair}
use Rattle.why_chain.proofs.meetings.meet_all.Given as goal

-- all so far can match, the rest adds to the queue what all add to the first, and each pair has its number
abbrev pub invariant-loop-k : goal.invariant-loop-k
invariant-loop-k l =
    let items = item_views l.items in
    let count = reloc_count items l.pair in
    let n = length l.items in
    record {
      matched : (j : ℕ) → j < l.k → can_match items l.pair j ≡ true;
      queued : met_all n l.place (new_pair items l.pair) (range_with_len l.k (count - l.k)) l.queue.items
          ≡ met_all n l.place (new_pair items l.pair) (range_with_len 0 count) l.initial.queue.items;
      known : l.known.keys ≡ codes_of n l.queue.items;
      front : take (length l.initial.queue.items) l.queue.items ≡ l.initial.queue.items;
    }
