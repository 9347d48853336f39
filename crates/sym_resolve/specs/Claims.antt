-- Offers as claims: the number of the name is the word in place of the name; and what the claims lead to.
use Rattle.std.specs.Prelude.{ℕ, ◌==◌, if◌then◌else◌, Bool, List, map}
use Rattle.std.specs.Prelude.{slice_index_or}
use Rattle.claim_core.specs.declared.events.Event.{Event}
use Rattle.claim_core.specs.Events.{event}
use Rattle.lk_base.specs.declared.abi.TheConstants.{STB_LOCAL}
use Rattle.lk_tables.specs.Binding.{offer_at}
use Rattle.lk_tables.specs.Files.{File, file_at, symbol_at}
use Rattle.lk_tables.specs.NameNumbers.{name_number}
use Rattle.lk_tables.specs.Ranks.{no_rank}
use Rattle.sym_resolve.specs.Symbols.{over_symbols}

unfoldable pub claim_at : List File → List Bool → (f i : ℕ) → List Event
claim_at files gone f i = map (λ o. event (name_number files f i) o.rank) (offer_at files gone f i)

unfoldable pub claims : List File → List Bool → List Event
claims files gone = over_symbols files (claim_at files gone)

-- the rank that a row has for a word
abbrev pub rank_at : List ℕ → ℕ → ℕ
rank_at row word = slice_index_or row word no_rank

-- the rank that a symbol's name is bound to, by such a row
unfoldable pub rank_by : List File → List ℕ → (f i : ℕ) → ℕ
rank_by files row f i = if (file_at files f).live
    then (if (symbol_at (file_at files f) i).binding == STB_LOCAL then no_rank else rank_at row (name_number files f i)) else no_rank
