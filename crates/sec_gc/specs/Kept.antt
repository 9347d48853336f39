-- What is reached from some sections, found in rounds.
use Rattle.std.specs.Prelude.{ℕ, zero, suc, ◌&&◌, ◌||◌, Bool, List, length, map}
use Rattle.std.specs.List.{list_any, range_with_len}
use Rattle.lk_base.specs.RelocKinds.{is_among}
use Rattle.lk_tables.specs.Reach.{ends_at}

-- the roots, and what is reached from them in so many rounds
unfoldable pub reached_in : (roots : List ℕ) → (ends : List (List ℕ)) → (rounds : ℕ) → ℕ → Bool
reached_in roots ends zero f = is_among roots f
reached_in roots ends (suc n) f = reached_in roots ends n f
    || list_any (λ e. reached_in roots ends n e && is_among (ends_at ends e) f) (range_with_len 0 (length ends))

-- by number, whether a section is reached: a round that adds no section is the last that could, so there are no more such rounds
-- than sections
unfoldable pub reached : (roots : List ℕ) → (ends : List (List ℕ)) → List Bool
reached roots ends = map (reached_in roots ends (length ends)) (range_with_len 0 (length ends))
