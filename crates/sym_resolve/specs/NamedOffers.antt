-- The least rank on offer for a name, by one look at each offer: the rank says whose name is offered.
use Rattle.std.specs.Prelude.{ℕ, ◌&&◌, nat_lt, if◌then◌else◌, List, [], ◌∷◌}
use Rattle.std.specs.Str.{bytes_eq}
use Rattle.claim_core.specs.declared.events.Event.{Event}
use Rattle.lk_tables.specs.Files.{File, file_at, symbol_name}
use Rattle.lk_tables.specs.Ranks.{file_of, symbol_of_rank}

-- the name of the symbol of a rank
abbrev pub offered_name : List File → ℕ → List ℕ
offered_name files rank = symbol_name (file_at files (file_of rank)) (symbol_of_rank rank)

abbrev pub lesser_named : List File → List ℕ → (least rank : ℕ) → ℕ
lesser_named files name least rank = if nat_lt rank least && bytes_eq (offered_name files rank) name then rank else least

abbrev pub least_named : List File → List ℕ → ℕ → List Event → ℕ
least_named files name least [] = least
least_named files name least (e ∷ es) = least_named files name (lesser_named files name least e.rank) es
