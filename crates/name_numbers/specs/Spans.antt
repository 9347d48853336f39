-- The symbols of a file whose names are the same span of its bytes.
use Rattle.std.specs.Prelude.{◌≡◌, ℕ, ◌+◌, ◌≤◌, ◌==◌, ◌&&◌, Bool, true, false, Option, Some, None, if◌then◌else◌, List, [], ◌∷◌, length, find, flat_map, slice_index_or}
use Rattle.std.specs.List.{range_with_len}
use Rattle.std.specs.declared.cmp.Ordering.{Ordering}
use Rattle.std.specs.Ordering.{nat_cmp, ordering_then}
use Rattle.lk_tables.specs.declared.heads.Symbol.{Symbol}
use Rattle.lk_tables.specs.Files.{no_symbol}
use Rattle.lk_tables.specs.NameNumbers.{is_named}
use Rattle.name_numbers.specs.declared.spans.NameSpan.{NameSpan}
use Rattle.name_numbers.specs.declared.spans.Spot.{Spot}

abbrev pub symbol_in : List Symbol → ℕ → Symbol
symbol_in symbols i = slice_index_or symbols i no_symbol

-- the names of two symbols are one span
abbrev pub is_one_span : Symbol → Symbol → Bool
is_one_span s t = s.name.from == t.name.from && s.name.len == t.name.len

-- the first symbol whose name counts and is the span of symbol i
abbrev pub index_or : Option ℕ → ℕ
index_or None = 0
index_or (Some i) = i

unfoldable pub first_span : List Symbol → ℕ → ℕ
first_span symbols i =
    index_or (find (λ j. is_named (symbol_in symbols j) && is_one_span (symbol_in symbols j) (symbol_in symbols i)) (range_with_len 0 (length symbols)))

unfoldable pub first_or_none : List Symbol → ℕ → ℕ
first_or_none symbols i = if is_named (symbol_in symbols i) then first_span symbols i else 0

-- the symbols whose names count, with their spans
abbrev pub spot : (from len symbol : ℕ) → Spot
spot from len symbol = record { span = record { from = from; len = len }; symbol = symbol }

unfoldable pub spot_at : List Symbol → ℕ → List Spot
spot_at symbols i = if is_named (symbol_in symbols i)
    then spot (symbol_in symbols i).name.from (symbol_in symbols i).name.len i ∷ [] else []

unfoldable pub spots : List Symbol → List Spot
spots symbols = flat_map (spot_at symbols) (range_with_len 0 (length symbols))

abbrev pub span_of : Spot → NameSpan
span_of s = s.span

abbrev pub place_of : Spot → ℕ
place_of s = s.symbol

-- by the span, then by the symbol
abbrev pub span_cmp : NameSpan → NameSpan → Ordering
span_cmp x y = ordering_then (nat_cmp x.from y.from) (nat_cmp x.len y.len)

abbrev pub spot_cmp : Spot → Spot → Ordering
spot_cmp x y = ordering_then (span_cmp x.span y.span) (nat_cmp x.symbol y.symbol)

-- spots j and k have one span
abbrev pub no_spot : Spot
no_spot = spot 0 0 0

abbrev pub is_same_span : List Spot → (j k : ℕ) → Bool
is_same_span list j k =
    (slice_index_or list j no_spot).span.from == (slice_index_or list k no_spot).span.from
    && (slice_index_or list j no_spot).span.len == (slice_index_or list k no_spot).span.len

-- a name that counts begins at `next` or after it, and `more` is right after its first byte; for another symbol `more` is `next`
pub record StepsOver (s : Symbol) (next more : ℕ) : Type 0 where
  pub named : is_named s ≡ true → (next ≤ s.name.from) × (more ≡ s.name.from + 1)
  pub other : is_named s ≡ false → more ≡ next
