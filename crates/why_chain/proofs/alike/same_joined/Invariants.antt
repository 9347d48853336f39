use Rattle.std.proofs.Common.{◌≡◌, ℕ, ◌<◌, ◌++◌, get_or}
use Rattle.why_chain.proofs.alike.same_joined.Given as goal

-- so many bytes are equal
abbrev pub invariant-loop-k : goal.invariant-loop-k
invariant-loop-k l = (i : ℕ) → i < l.k → get_or (l.head ++ l.tail) i 0 ≡ get_or (l.other ++ l.rest) i 0
