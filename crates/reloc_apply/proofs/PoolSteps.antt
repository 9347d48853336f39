-- The pieces of a pool, as they are held and as plain records, laid over a block.
use Rattle.std.proofs.Common.{◌≡◌, inl, inr, ℕ, zero, suc, ◌+◌, ◌-◌, ◌<◌, ◌≤◌, List, [], ◌∷◌, length, drop, take, flat_map, get_or, map, refl, sym, ap, ◌∙◌, arith, subst, min}
use Rattle.std.specs.List.Sorted.{IsNonDecreasingBy}
use Rattle.std.proofs.lemmas.Bool.{cases_lt}
use Rattle.std.proofs.lemmas.List.{get_or_past, length-take}
use Rattle.std.proofs.lemmas.List.Sorted.{IsNonDecreasingBy-from_all_adjacent}
use Rattle.lk_tables.specs.Files.{File, file_at, no_file}
use Rattle.lk_tables.specs.Names.{text_of}
use Rattle.link_sections.specs.declared.pieces.Piece.{Piece as HeldPiece}
use Rattle.link_sections.specs.declared.pools.Pool.{Pool}
use Rattle.link_sections.specs.declared.views.View.{View}
use Rattle.link_sections.specs.Addresses.{no_pool}
use Rattle.link_sections.specs.LaidOut.{with_contents}
use Rattle.link_sections.specs.PoolViews.{piece_rows, piece_text, pool_view, pool_views, pools_view}
use Rattle.link_sections.specs.Pools.{IsPile}
use Rattle.link_sections.specs.Views.{binding_in, files_in, laid_in, leaders_in}
use Rattle.reloc_apply.specs.Image.{Piece, piece}
use Rattle.reloc_apply.specs.Relocated.{placed_pieces, pool_pieces}
use Rattle.reloc_apply.specs.Standing.{AreStacked, no_piece}
use Rattle.reloc_apply.proofs.PieceWalks.{AreAway, IsBeside, away_all, piece_away}

abbrev pub none : Pool
none = record { first = 0; size = 0 }

pub pool_at : (files : List File) (pools : List Pool) (rows : List (List HeldPiece)) (p : ℕ) → p < length pools →
    get_or (pool_views files pools rows) p no_pool ≡ pool_view files (get_or pools p none) (get_or rows p [])
pool_at files [] rows p lt = absurd (omega (arith, lt))
pool_at files (x ∷ xs) [] zero lt = refl
pool_at files (x ∷ xs) [] (suc p) lt = pool_at files xs [] p (omega (arith, lt))
pool_at files (x ∷ xs) (r ∷ rs) zero lt = refl
pool_at files (x ∷ xs) (r ∷ rs) (suc p) lt = pool_at files xs rs p (omega (arith, lt))

pub pool_count : (files : List File) (pools : List Pool) (rows : List (List HeldPiece)) → length (pool_views files pools rows) ≡ length pools
pool_count files [] rows = refl
pool_count files (x ∷ xs) [] = ap suc (pool_count files xs [])
pool_count files (x ∷ xs) (r ∷ rs) = ap suc (pool_count files xs rs)

-- what a piece has in the file, if its pool stands at an offset
abbrev pub part_pieces : List File → (at : ℕ) → HeldPiece → List Piece
part_pieces files at p = piece (at + p.position) (piece_text files p) ∷ []

pub text_short : (files : List File) (p : HeldPiece) → length (piece_text files p) ≤ p.text.len
unfolding text_of
text_short files p = omega (arith, length-take p.text.len (drop p.text.from (file_at files p.text.file).bytes))

nothing : (n m : ℕ) → [] ≡ take {A = ℕ} n (drop m [])
nothing zero zero = refl
nothing zero (suc m) = refl
nothing (suc n) zero = refl
nothing (suc n) (suc m) = refl

pub text_past : (files : List File) (p : HeldPiece) → length files ≤ p.text.file → [] ≡ piece_text files p
unfolding text_of
text_past files p le =
    nothing p.text.len p.text.from
    ∙ ap (λ (f : File). take p.text.len (drop p.text.from f.bytes)) (sym (get_or_past files p.text.file no_file le))

pub part_away : (files : List File) (from len at : ℕ) (p : HeldPiece) → IsBeside from len (at + p.position) (at + p.position + p.text.len) →
    AreAway from len (part_pieces files at p)
part_away files from len at p beside =
    piece_away from len (at + p.position) (piece_text files p) (λ q le lt. elim (beside q le lt) [
      | inl low ↦ inl low
      | inr high ↦ inr (omega (arith, high, text_short files p))
    ])

-- a piece that ends before the block, and one that starts after it
pub ends_first : (from len at position size : ℕ) → position + size ≤ from - at → IsBeside from len (at + position) (at + position + size)
ends_first from len at position size end = λ q le lt. elim (cases_lt q (at + position)) [
  | inl low ↦ inl low
  | inr high ↦ inr (omega (arith, end, le, high))
]

pub begins_last : (from len at position size : ℕ) → from + len - at ≤ position → IsBeside from len (at + position) (at + position + size)
begins_last from len at position size begin = λ q le lt. inl (omega (arith, begin, lt))

-- pieces one after the other rise by their starts and their ends
pub starts_rise : (pieces : List HeldPiece) → AreStacked pieces → IsNonDecreasingBy (λ (p : HeldPiece). p.position) pieces
starts_rise pieces order = IsNonDecreasingBy-from_all_adjacent (λ (p : HeldPiece). p.position) pieces (λ k d lt. let next = order k d lt in omega (arith, next))

pub ends_rise : (pieces : List HeldPiece) (most : ℕ) → AreStacked pieces → IsNonDecreasingBy (λ (p : HeldPiece). min (p.position + p.text.len) most) pieces
ends_rise pieces most order =
    IsNonDecreasingBy-from_all_adjacent (λ (p : HeldPiece). min (p.position + p.text.len) most) pieces (λ k d lt. let next = order k d lt in omega (arith, next))

module _ (view : View) where
  abbrev pub held : ℕ → List HeldPiece
  held p = get_or (piece_rows view.pools.now) p []

  placed_is : (at : ℕ) (ps : List HeldPiece) →
      placed_pieces (files_in view) (binding_in view) (leaders_in view) (laid_in view) at (map (λ (p : HeldPiece). p.position) ps) (map (piece_text (files_in view)) ps)
      ≡ flat_map (part_pieces (files_in view) at) ps
  placed_is at [] = refl
  placed_is at (p ∷ ps) = ap (λ l. piece (at + p.position) (piece_text (files_in view) p) ∷ l) (placed_is at ps)

  -- the pool of a number
  pub record IsPool (p : ℕ) : Type 0 where
    pub number : p < length view.pools.now.pools.items
    pub size : (get_or (laid_in view).merging.pools p no_pool).size ≡ (get_or view.pools.now.pools.items p none).size
    pub pieces : (at : ℕ) → pool_pieces (files_in view) (binding_in view) (leaders_in view) (laid_in view) at p ≡ flat_map (part_pieces (files_in view) at) (held p)

  pub pool_is : (p : ℕ) → p < length (laid_in view).merging.pools → IsPool p
  unfolding pool_pieces with_contents pools_view
  pool_is p lt =
      let pools = view.pools.now.pools.items in
      let rows = piece_rows view.pools.now in
      let number : p < length pools = omega (arith, lt, pool_count (files_in view) pools rows) in
      let same = pool_at (files_in view) pools rows p number in
      record {
        number = number;
        size = ap (λ v. v.size) same;
        pieces = λ at.
            ap (λ v. placed_pieces (files_in view) (binding_in view) (leaders_in view) (laid_in view) at v.positions v.pieces) same
            ∙ placed_is at (held p);
      }

  -- a pool away from some bytes
  pub pool_away : (p from len at : ℕ) → p < length (laid_in view).merging.pools → IsPile (get_or view.pools.now.pools.items p none) (held p) →
      IsBeside from len at (at + (get_or (laid_in view).merging.pools p no_pool).size) →
      AreAway from len (pool_pieces (files_in view) (binding_in view) (leaders_in view) (laid_in view) at p)
  pool_away p from len at lt pile beside =
      let is = pool_is p lt in
      let size = is.size in
      subst (AreAway from len) (sym (is.pieces at))
      (away_all (part_pieces (files_in view) at) no_piece from len (held p) (λ j less.
      let inside = pile.inside j no_piece less in
      part_away (files_in view) from len at (get_or (held p) j no_piece) (λ q low high. elim (beside q low high) [
        | inl before ↦ inl (omega (arith, before))
        | inr after ↦ inr (omega (arith, after, inside, size))
      ])))
