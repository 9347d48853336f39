-- The walk over section numbers that collects items, and the next pool.
use Rattle.std.proofs.Common.{◌≡◌, ℕ, ◌≤◌, List, flat_map, ap, ◌∙◌, arith}
use Rattle.std.specs.List.{range_with_len}
use Rattle.link_sections.specs.declared.pools.Pool.{Pool}
use Rattle.output_sections.specs.Items.{IsNext, Item}

pub record AreWalked (pools : List Pool) (give : ℕ → List Item) (section next total : ℕ) (items : List Item) : Type 0 where
  pub here : IsNext pools section next
  pub few : next ≤ section
  pub within : section ≤ total
  pub all : items ≡ flat_map give (range_with_len 0 section)

-- at its end all numbers have been walked over
pub walked_all : (pools : List Pool) (give : ℕ → List Item) (section next total : ℕ) (items : List Item) → AreWalked pools give section next total items → total ≤ section
    → items ≡ flat_map give (range_with_len 0 total)
walked_all pools give section next total items is end =
    let most : section ≤ total = is.within in
    let same : section ≡ total = omega arith in
    is.all ∙ ap (λ n. flat_map give (range_with_len 0 n)) same
