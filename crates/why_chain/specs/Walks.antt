-- Why a section is kept: a walk along edges from a root to it.
use Rattle.std.specs.Prelude.{◌≡◌, ◌⊎◌, ℕ, ◌+◌, ◌≤◌, ◌==◌, ◌&&◌, Bool, true, false, Option, find, List, [], ◌∷◌, length}
use Rattle.lk_base.specs.RelocKinds.{is_among}
use Rattle.lk_tables.specs.Reach.{ends_at}
use Rattle.why_chain.specs.declared.chains.LiveChain.{LiveChain}
use Rattle.why_chain.specs.ShortLists.{ComesBefore, short_lists}

-- the sections of a walk
abbrev pub sections_in : LiveChain → List ℕ
sections_in c = c.sections.items

-- from a section on each next one is an end of the one before, and the last is the target
abbrev pub leads_to : (ends : List (List ℕ)) → (target from : ℕ) → (rest : List ℕ) → Bool
leads_to ends target from [] = from == target
leads_to ends target from (next ∷ rest) = is_among (ends_at ends from) next && leads_to ends target next rest

-- sections that begin with a root and lead to the target
abbrev pub is_walk : (roots : List ℕ) → (ends : List (List ℕ)) → (target : ℕ) → List ℕ → Bool
is_walk roots ends target [] = false
is_walk roots ends target (first ∷ rest) = is_among roots first && leads_to ends target first rest

-- the first walk of all lists of at most as many sections as there are
unfoldable pub live_chain : (roots : List ℕ) → (ends : List (List ℕ)) → (target : ℕ) → Option (List ℕ)
live_chain roots ends target = find (is_walk roots ends target) (short_lists (length ends) (length ends + 1))

-- a walk than which none has fewer edges, and of those with as many none comes before it
pub record IsLeastWalk (roots : List ℕ) (ends : List (List ℕ)) (target : ℕ) (list : List ℕ) : Type 0 where
  pub walk : is_walk roots ends target list ≡ true
  pub shortest : (other : List ℕ) → is_walk roots ends target other ≡ true → length list ≤ length other
  pub least : (other : List ℕ) → is_walk roots ends target other ≡ true → length other ≡ length list → (other ≡ list) ⊎ ComesBefore list other
