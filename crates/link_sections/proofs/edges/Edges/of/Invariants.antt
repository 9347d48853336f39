use Rattle.std.proofs.Common.{◌≡◌, ℕ, Vec, Global, map, take}
use Rattle.link_sections.proofs.edges.Edges.of.Given as goal

abbrev pub invariant-loop-n : goal.invariant-loop-n
invariant-loop-n l = l.rows ≡ map (λ (list : Vec ℕ Global). list.items) (take l.n l.lists.items)
