-- The offers of all files as claims on the numbers of their names.
use Rattle.std.specs.Prelude.{ℕ, if◌then◌else◌, List, [], ◌∷◌, length, flat_map}
use Rattle.std.specs.List.{range_with_len}
use Rattle.claim_core.specs.declared.events.Event.{Event}
use Rattle.claim_core.specs.Events.{event}
use Rattle.lk_tables.specs.Files.{File, file_at, symbol_at}
use Rattle.lk_tables.specs.Binding.{is_offer}
use Rattle.lk_tables.specs.NameNumbers.{name_number}
use Rattle.file_live.specs.Live.{early_rank}

unfoldable pub claim_at : List File → (f i : ℕ) → List Event
claim_at files f i = if is_offer (symbol_at (file_at files f) i) then event (name_number files f i) (early_rank files f i) ∷ [] else []

unfoldable pub claims_in : List File → ℕ → List Event
claims_in files f = flat_map (claim_at files f) (range_with_len 0 (length (file_at files f).head.symbols))

unfoldable pub claims : List File → List Event
claims files = flat_map (claims_in files) (range_with_len 0 (length files))
