-- Where a piece stands in its pool: by the lists that hold pools and pieces, and as plain records; within the bytes of all pools.
use Rattle.std.proofs.Common.{◌≡◌, ℕ, zero, suc, ◌<◌, ◌≤◌, ◌^◌, List, [], ◌∷◌, length, map, get_or, refl, sym, ◌∙◌, arith, inl, inr, slice_index}
use Rattle.std.specs.Prelude.{nat_lt, slice_index_or}
use Rattle.std.proofs.lemmas.Bool.{cases_lt, cond-false, cond-true, le-ltb, lt-ltb}
use Rattle.std.proofs.lemmas.List.Sums.{sum_by-cons}
use Rattle.lk_tables.specs.Files.{File}
use Rattle.link_sections.specs.declared.pieces.Piece.{Piece}
use Rattle.link_sections.specs.declared.pools.Pool.{Pool}
use Rattle.link_sections.specs.declared.pools.Pools.{Pools}
use Rattle.link_sections.specs.Addresses.{no_pool}
use Rattle.link_sections.specs.Pools.{IsPile, pool_bytes}
use Rattle.link_sections.specs.PoolViews.{piece_rows, pool_views, pools_view}
use Rattle.link_sections.specs.Positions.{position_at}

-- a piece of a pile
abbrev place_in : List Piece → ℕ → ℕ
place_in pieces piece = slice_index (map (λ (p : Piece). p.position) pieces) piece

held_at : (pieces : List Piece) (piece : ℕ) (d : Piece) → piece < length pieces → place_in pieces piece ≡ (get_or pieces piece d).position
held_at [] piece d lt = absurd (omega (arith, lt))
held_at (p ∷ ps) zero d lt = refl
held_at (p ∷ ps) (suc piece) d lt = held_at ps piece d (omega (arith, lt))

none_at : (pieces : List Piece) (piece : ℕ) → length pieces ≤ piece → place_in pieces piece ≡ 0
none_at [] piece le = refl
none_at (p ∷ ps) zero le = absurd (omega (arith, le))
none_at (p ∷ ps) (suc piece) le = none_at ps piece (omega (arith, le))

first_piece : (pieces : List Piece) → 0 < length pieces → Piece
first_piece [] some = absurd (omega (arith, some))
first_piece (p ∷ ps) some = p

within_pile : (pool : Pool) (pieces : List Piece) (piece : ℕ) → IsPile pool pieces → place_in pieces piece ≤ pool.size
within_pile pool pieces piece is = elim (cases_lt piece (length pieces)) [
  | inl lt ↦
      let d = first_piece pieces (omega (arith, lt)) in
      let inside = is.inside piece d lt in
      omega (arith, inside, held_at pieces piece d lt)
  | inr le ↦ omega (arith, none_at pieces piece le)
]

first_most : (p : Pool) (ps : List Pool) → p.size ≤ pool_bytes (p ∷ ps)
first_most p ps = omega (arith, sum_by-cons (λ (q : Pool). q.size) p ps)

later_most : (n : ℕ) (p : Pool) (ps : List Pool) → n ≤ pool_bytes ps → n ≤ pool_bytes (p ∷ ps)
later_most n p ps is = omega (arith, is, sum_by-cons (λ (q : Pool). q.size) p ps)

size_most : (pools : List Pool) (pool : ℕ) (d : Pool) → pool < length pools → (get_or pools pool d).size ≤ pool_bytes pools
size_most [] pool d lt = absurd (omega (arith, lt))
size_most (p ∷ ps) zero d lt = first_most p ps
size_most (p ∷ ps) (suc pool) d lt = later_most (get_or ps pool d).size p ps (size_most ps pool d (omega (arith, lt)))

first_pool : (pools : List Pool) → 0 < length pools → Pool
first_pool [] some = absurd (omega (arith, some))
first_pool (p ∷ ps) some = p

past_pools : (files : List File) (pools : List Pool) (rows : List (List Piece)) (pool piece : ℕ) → length pools ≤ pool →
    slice_index (slice_index_or (pool_views files pools rows) pool no_pool).positions piece ≡ 0
past_pools files [] rows pool piece le = refl
past_pools files (p ∷ ps) rows zero piece le = absurd (omega (arith, le))
past_pools files (p ∷ ps) [] (suc pool) piece le = past_pools files ps [] pool piece (omega (arith, le))
past_pools files (p ∷ ps) (r ∷ rs) (suc pool) piece le = past_pools files ps rs pool piece (omega (arith, le))

at_pool : (files : List File) (pools : List Pool) (rows : List (List Piece)) (pool piece : ℕ) → pool < length pools →
    slice_index (slice_index_or (pool_views files pools rows) pool no_pool).positions piece ≡ place_in (slice_index_or rows pool []) piece
at_pool files [] rows pool piece lt = absurd (omega (arith, lt))
at_pool files (p ∷ ps) [] zero piece lt = refl
at_pool files (p ∷ ps) [] (suc pool) piece lt = at_pool files ps [] pool piece (omega (arith, lt))
at_pool files (p ∷ ps) (r ∷ rs) zero piece lt = refl
at_pool files (p ∷ ps) (r ∷ rs) (suc pool) piece lt = at_pool files ps rs pool piece (omega (arith, lt))

-- by the lists that hold pools and pieces
pub position_is : (files : List File) (pools : List Pool) (rows : List (List Piece)) (pool piece : ℕ) →
    position_at pools rows pool piece ≡ slice_index (slice_index_or (pool_views files pools rows) pool no_pool).positions piece
position_is files pools rows pool piece =
    let place = place_in (slice_index_or rows pool []) piece in
    elim (cases_lt pool (length pools)) [
      | inl lt ↦ cond-true (nat_lt pool (length pools)) place 0 (lt-ltb pool (length pools) lt) ∙ sym (at_pool files pools rows pool piece lt)
      | inr le ↦ cond-false (nat_lt pool (length pools)) place 0 (le-ltb pool (length pools) le) ∙ sym (past_pools files pools rows pool piece le)
    ]

-- within the bytes of all pools
pub position_few : (files : List File) (pools : Pools) (pool piece : ℕ) →
    slice_index (slice_index_or (pools_view files pools).pools pool no_pool).positions piece < 2 ^ 60
unfolding pools_view
position_few files pools pool piece =
    let list = pools.pools.items in
    let rows = piece_rows pools in
    elim (cases_lt pool (length list)) [
      | inl lt ↦
          let d = first_pool list (omega (arith, lt)) in
          let within = within_pile (get_or list pool d) (slice_index_or rows pool []) piece (pools.piled pool d lt) in
          let size = size_most list pool d lt in
          let small = pools.small in
          omega (arith, at_pool files list rows pool piece lt, within, size, small)
      | inr le ↦ omega (arith, past_pools files list rows pool piece le)
    ]
