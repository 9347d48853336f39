-- A search in breadth over pairs of items: what is met through the relocations of one pair.
use Rattle.std.specs.Prelude.{ℕ, ◌+◌, ◌*◌, ◌==◌, Option, Some, None, if◌then◌else◌, List, [], ◌∷◌, ◌++◌, map}
use Rattle.std.specs.List.{list_any}
use Rattle.link_sections.specs.FoldItems.{FoldItem}
use Rattle.icf_part.specs.Leaders.{same_target}
use Rattle.why_chain.specs.declared.pairs.Met.{Met}
use Rattle.why_chain.specs.declared.pairs.Pair.{Pair}
use Rattle.why_chain.specs.Aparts.{next_pair, target_of, two_items}

-- one number for each pair of n items
abbrev pub code_of : (n : ℕ) → Pair → ℕ
code_of n p = p.one * n + p.two

abbrev pub pair_met : Met → Pair
pair_met m = two_items m.one m.two

abbrev pub no_met : Met
no_met = record { one = 0; two = 0; place = 0; via = 0 }

abbrev pub met_by : (place k : ℕ) → Pair → Met
met_by place k p = record { one = p.one; two = p.two; place = place; via = k }

-- the pairs of a queue by their numbers
abbrev pub codes_of : (n : ℕ) → List Met → List ℕ
codes_of n queue = map (λ m. code_of n (pair_met m)) queue

-- where relocation k of both of a pair leads, if not both targets are equal: no equal targets ever lead to a difference
unfoldable pub new_pair : List FoldItem → Pair → (k : ℕ) → Option Pair
new_pair items p k = if same_target (target_of items p.one k) (target_of items p.two k) then None else next_pair items p k

-- a pair that is not in the queue is added to it
abbrev pub met_one : (n place k : ℕ) → List Met → Option Pair → List Met
met_one n place k queue None = queue
met_one n place k queue (Some p) = if list_any (λ code. code_of n p == code) (codes_of n queue) then queue else queue ++ met_by place k p ∷ []

-- the pairs of many relocations are added, one after the other
abbrev pub met_all : (n place : ℕ) → (new : ℕ → Option Pair) → (ks : List ℕ) → List Met → List Met
met_all n place new [] queue = queue
met_all n place new (k ∷ ks) queue = met_all n place new ks (met_one n place k queue (new k))

-- the relocation and the place by which each was met
abbrev pub vias_of : List Met → List ℕ
vias_of queue = map (λ (m : Met). m.via) queue

abbrev pub places_of : List Met → List ℕ
places_of queue = map (λ (m : Met). m.place) queue
