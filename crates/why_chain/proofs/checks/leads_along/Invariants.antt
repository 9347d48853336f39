use Rattle.std.proofs.Common.{◌≡◌, ◌-◌, ◌≤◌, drop, get_or}
use Rattle.link_sections.specs.Edges.{ends_of}
use Rattle.why_chain.specs.Walks.{leads_to}
use Rattle.why_chain.proofs.checks.leads_along.Given as goal

-- from the section before on the rest leads to the target if all do
abbrev pub invariant-loop-i : goal.invariant-loop-i
invariant-loop-i l = record {
  some : 1 ≤ l.i;
  rest : leads_to (ends_of l.edges) l.target (get_or l.sections (l.i - 1) 0) (drop l.i l.sections) ≡ leads_to (ends_of l.edges) l.target (get_or l.sections 0 0) (drop 1 l.sections);
}
