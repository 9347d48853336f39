-- What the report counts.
use Rattle.std.proofs.Common.{◌≡◌, ℕ, zero, suc, ◌+◌, ◌<◌, ◌≤◌, not, Bool, true, false, List, [], ◌∷◌, length, map, drop, flat_map, get_or, refl, ap, ◌∙◌, arith, subst, ◌++◌, append_assoc}
use Rattle.std.specs.List.Sorted.{IsStrictlyIncreasing}
use Rattle.std.specs.Prelude.{filter, if◌then◌else◌}
use Rattle.std.proofs.Math.ListN.{drop_of_length-le, get_or-map}
use Rattle.std.proofs.Math.Seq.{drop-cons}
use Rattle.std.proofs.lemmas.List.{length-append, length-map, get_or-map as get_or-map-within}
use Rattle.link_sections.specs.declared.cuts.Cut.{Cut as HeldCut}
use Rattle.link_sections.specs.declared.got.GotEntry.{GotEntry}
use Rattle.link_sections.specs.declared.layouts.Layout.{Layout}
use Rattle.link_sections.specs.declared.pieces.Piece.{Piece}
use Rattle.link_sections.specs.declared.pools.Pool.{Pool}
use Rattle.link_sections.specs.declared.pools.Pools.{Pools}
use Rattle.link_sections.specs.Cuts.{Cut}
use Rattle.link_sections.specs.CutsView.{cut_view, cut_views}
use Rattle.link_sections.specs.LaidOut.{LaidOut, cuts_at, layout_view, with_contents}
use Rattle.link_sections.specs.Pools.{AreRising}
use Rattle.link_sections.specs.PoolViews.{PoolView, PoolsView, piece_rows, piece_text, pool_views, pools_view}
use Rattle.lk_tables.specs.Files.{File}
use Rattle.link_driver.specs.Reports.{piece_total, short_calls}

-- the cuts of a section that are no alignments, as they are held
one_more : (on : Bool) (c : Cut) (h : HeldCut) (cs : List Cut) (hs : List HeldCut) → length cs ≡ length hs →
    length (if on then c ∷ cs else cs) ≡ length (if on then h ∷ hs else hs)
one_more true c h cs hs same = ap suc same
one_more false c h cs hs same = same

pub short_count : (cuts : List HeldCut) → length (short_calls (cut_views cuts)) ≡ length (filter (λ (c : HeldCut). not c.is_align) cuts)
short_count [] = refl
short_count (c ∷ cs) = one_more (not c.is_align) (cut_view c) c (short_calls (cut_views cs)) (filter (λ (c : HeldCut). not c.is_align) cs) (short_count cs)

-- the pieces of pools, pool by pool
abbrev pub pieces_of : PoolView → List (List ℕ)
pieces_of v = v.pieces

abbrev no_view : PoolView
no_view = record { first = 0; pieces = []; positions = []; size = 0 }

pub views_count : (files : List File) (pools : List Pool) (rows : List (List Piece)) → length (pool_views files pools rows) ≡ length pools
views_count files [] rows = refl
views_count files (pool ∷ pools) [] = ap suc (views_count files pools [])
views_count files (pool ∷ pools) (row ∷ rows) = ap suc (views_count files pools rows)

pieces_at : (files : List File) (pools : List Pool) (rows : List (List Piece)) (i : ℕ) (d : PoolView) → i < length pools →
    length (get_or (pool_views files pools rows) i d).pieces ≡ length (get_or rows i [])
pieces_at files [] rows i d lt = absurd (omega arith)
pieces_at files (pool ∷ pools) [] zero d lt = refl
pieces_at files (pool ∷ pools) [] (suc i) d lt = pieces_at files pools [] i d (omega arith)
pieces_at files (pool ∷ pools) (row ∷ rows) zero d lt = length-map row (piece_text files)
pieces_at files (pool ∷ pools) (row ∷ rows) (suc i) d lt = pieces_at files pools rows i d (omega arith)

module _ (files : List File) (pools : List Pool) (rows : List (List Piece)) where
  -- how many pieces the pools from the i-th on have
  abbrev pub pieces_left : (i : ℕ) → ℕ
  pieces_left i = length (flat_map pieces_of (drop i (pool_views files pools rows)))

  pub piece_step : (i : ℕ) → i < length pools → pieces_left i ≡ length (get_or rows i []) + pieces_left (i + 1)
  piece_step i lt =
      let views = pool_views files pools rows in
      let within : i < length views = omega (arith, views_count files pools rows, lt) in
      let e : suc i ≡ i + 1 = omega arith in
      ap (λ (l : List PoolView). length (flat_map pieces_of l)) (drop-cons views i no_view within)
      ∙ length-append (get_or views i no_view).pieces (flat_map pieces_of (drop (suc i) views))
      ∙ ap (λ n. n + length (flat_map pieces_of (drop (suc i) views))) (pieces_at files pools rows i no_view lt)
      ∙ ap (λ k. length (get_or rows i []) + pieces_left k) e

  pub piece_end : (i : ℕ) → length pools ≤ i → pieces_left i ≡ 0
  piece_end i le =
      let past : length (pool_views files pools rows) ≤ i = omega (arith, views_count files pools rows, le) in
      ap (λ (l : List PoolView). length (flat_map pieces_of l)) (drop_of_length-le (pool_views files pools rows) past)

-- the numbers of first sections rise, so none is below its pool's own
index_most : (xs : List ℕ) → IsStrictlyIncreasing xs → (i : ℕ) → i < length xs → i ≤ get_or xs i 0
index_most xs rising zero lt = omega arith
index_most xs rising (suc i) lt =
    let e : i + 1 ≡ suc i = omega arith in
    let before = index_most xs rising i (omega arith) in
    let P : ℕ → Type 0 = λ k. get_or xs i 0 < get_or xs k 0 in
    let step = subst P e (rising i (omega arith)) in
    omega (arith, before, step)

pub few_firsts : (pools : List Pool) (i : ℕ) (d : Pool) → AreRising pools → i < length pools → i ≤ (get_or pools i d).first
few_firsts pools i d rising lt =
    let first : Pool → ℕ = λ p. p.first in
    omega (arith, index_most (map first pools) rising i (omega (arith, lt, length-map pools first)), get_or-map-within first pools i d 0 lt)

-- the linker's table of a view
pub table_is : (l : LaidOut) (v : PoolsView) (t : List GotEntry) → (with_contents l v t).table ≡ t
unfolding with_contents
table_is l v t = refl

-- what the report counts of a view
pub cuts_are : (l : Layout) (v : PoolsView) (t : List GotEntry) (n : ℕ) → cuts_at (with_contents (layout_view l) v t) n ≡ cut_views (get_or l.sizes.rows n [])
unfolding with_contents layout_view
cuts_are l v t n = get_or-map cut_views l.sizes.rows n []

pub pieces_are : (l : LaidOut) (files : List File) (pools : Pools) (t : List GotEntry) →
    pieces_left files pools.pools.items (piece_rows pools) 0 ≡ piece_total (with_contents l (pools_view files pools) t)
unfolding with_contents pools_view
pieces_are l files pools t = refl

-- a text that is made of parts, one after the other
pub joined : (a b c d e f z t0 t1 t2 t3 t4 t5 t6 t7 : List ℕ) → t0 ≡ [] → t1 ≡ t0 ++ a → t2 ≡ t1 ++ b → t3 ≡ t2 ++ c → t4 ≡ t3 ++ d → t5 ≡ t4 ++ e → t6 ≡ t5 ++ f →
    t7 ≡ t6 ++ z → t7 ≡ a ++ (b ++ (c ++ (d ++ (e ++ (f ++ z)))))
joined a b c d e f z t0 t1 t2 t3 t4 t5 t6 t7 s0 s1 s2 s3 s4 s5 s6 s7 = rw (s7, s6, s5, s4, s3, s2, s1, s0) (simp append_assoc)
