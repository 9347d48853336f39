use Rattle.std.proofs.Common.{◌≡◌, ◌*◌, ◌-◌, length}
use Rattle.link_sections.specs.FoldItems.{item_views}
use Rattle.why_chain.specs.Meetings.{codes_of}
use Rattle.why_chain.proofs.Parting.{IsApartAt}
use Rattle.why_chain.proofs.apart.why_apart_within.Given as goal

abbrev pub invariant-loop-place : goal.invariant-loop-place
invariant-loop-place l = record {
  search : IsApartAt (item_views l.items) l.a l.b l.queue.items l.place;
  known : l.known.keys ≡ codes_of (length l.items) l.queue.items;
}

abbrev pub decreases-loop-place : goal.decreases-loop-place
decreases-loop-place l = length l.items * length l.items - l.place
