use Rattle.std.proofs.Common.{◌≡◌, drop, map}
use Rattle.std.specs.Cmp.Lexicographic.{pointwise}
use Rattle.icf_part.specs.Folding.{site_of}
use Rattle.icf_part.specs.Leaders.{same_site}
use Rattle.why_chain.proofs.alike.same_sites.Given as goal

-- all are equal if the rest is
abbrev pub invariant-loop-k : goal.invariant-loop-k
invariant-loop-k l = pointwise same_site (map site_of (drop l.k l.one)) (map site_of (drop l.k l.two)) ≡ pointwise same_site (map site_of l.one) (map site_of l.two)
