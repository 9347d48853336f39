use Rattle.std.proofs.Common.{◌≡◌, ◌<◌, drop, length}
use Rattle.link_sections.specs.FoldItems.{item_views}
use Rattle.why_chain.specs.Aparts.{is_apart_by, two_items}
use Rattle.why_chain.proofs.checks.check_apart.Given as goal

-- from the pair at hand on the rest is such a chain if all are from the first on
abbrev pub invariant-loop-i : goal.invariant-loop-i
invariant-loop-i l = record {
  one : l.pair.one < length l.items;
  two : l.pair.two < length l.items;
  rest : is_apart_by (item_views l.items) l.chain.last (drop l.i l.vias) l.pair ≡ is_apart_by (item_views l.items) l.chain.last l.chain.vias.items (two_items l.a l.b);
}
