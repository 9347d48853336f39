-- The pools, one more.
use Rattle.std.proofs.Common.{◌≡◌, ℕ, zero, suc, ◌+◌, ◌<◌, ◌==◌, Bool, true, false, cond, List, [], ◌∷◌, ◌++◌, length, map, get_or, refl, sym, ap, ◌∙◌, subst, arith, inl, inr}
use Rattle.std.specs.Prelude.{All}
use Rattle.std.specs.List.{filter, range_with_len}
use Rattle.std.proofs.lemmas.Bool.{cases_lt, eq-eqb}
use Rattle.std.proofs.lemmas.List.{get_or_append_left, get_or_push, length-append}
use Rattle.std.proofs.lemmas.List.FromFn.{length-range_with_len, get_or-range_with_len}
use Rattle.std.proofs.lemmas.List.Sums.{sum_by_push}
use Rattle.lk_base.proofs.Loops.{map_step}
use Rattle.lk_tables.specs.Files.{File}
use Rattle.lk_tables.specs.TablesView.{files_of}
use Rattle.link_sections.specs.declared.pieces.Merged.{Merged as HeldMerged}
use Rattle.link_sections.specs.declared.pieces.Part.{Part}
use Rattle.link_sections.specs.declared.pieces.Piece.{Piece}
use Rattle.link_sections.specs.declared.pools.Pool.{Pool}
use Rattle.link_sections.specs.Merging.{pool_number, pool_of, pool_pieces, pool_site, positions_from, sites}
use Rattle.link_sections.specs.PoolViews.{piece_text, pool_view, pool_views}
use Rattle.link_sections.specs.Pools.{AreInOrder, ArePiles, IsPile, pool_bytes}
use Rattle.str_merge.specs.declared.filling.Filled.{Filled}
use Rattle.str_merge.specs.declared.placing.Placed.{Placed}
use Rattle.str_merge.specs.declared.pooling.Work.{Work}
use Rattle.str_merge.specs.Filling.{AddsPool, AreAnswered, IsAnswered, IsFilledTo}
use Rattle.str_merge.specs.Pooling.{IsPooled, pool_align}
use Rattle.str_merge.specs.Works.{IsWork, members_at, nth_site}
use Rattle.str_merge.proofs.PoolFacts.{align_some}
use Rattle.str_merge.proofs.PoolRooms.{count_below, pool_room, rooms_below}
use Rattle.str_merge.proofs.WorkFacts.{align_most, count_sites}

-- pools with their pieces, one more
views_push : (files : List File) (pools : List Pool) (rows : List (List Piece)) (pool : Pool) (row : List Piece) → length pools ≡ length rows →
    pool_views files (pools ++ pool ∷ []) (rows ++ row ∷ []) ≡ pool_views files pools rows ++ pool_view files pool row ∷ []
views_push files [] [] pool row same = refl
views_push files [] (r ∷ rows) pool row same = absurd (omega (arith, same))
views_push files (p ∷ pools) [] pool row same = absurd (omega (arith, same))
views_push files (p ∷ pools) (r ∷ rows) pool row same = ap (λ l. pool_view files p r ∷ l) (views_push files pools rows pool row (omega (arith, same)))

-- each with its pieces in it
piles_push : (pools : List Pool) (rows : List (List Piece)) (pool : Pool) (row : List Piece) → length pools ≡ length rows → ArePiles pools rows → IsPile pool row →
    ArePiles (pools ++ pool ∷ []) (rows ++ row ∷ [])
piles_push pools rows pool row same piled own = λ i d lt. elim (cases_lt i (length pools)) [
  | inl before ↦
      let P : Pool → Type 0 = λ q. IsPile q (get_or (rows ++ row ∷ []) i []) in
      let Q : List Piece → Type 0 = λ l. IsPile (get_or pools i d) l in
      subst P (sym (get_or_append_left pools (pool ∷ []) d i before))
      (subst Q (sym (get_or_append_left rows (row ∷ []) [] i (omega (arith, before, same)))) (piled i d before))
  | inr past ↦
      let at : length pools ≡ i = omega (arith, lt, past, length-append pools (pool ∷ [])) in
      let P : Pool → Type 0 = λ q. IsPile q (get_or (rows ++ row ∷ []) i []) in
      let Q : List Piece → Type 0 = λ l. IsPile pool l in
      subst P (sym (get_or_push pools pool d i at)) (subst Q (sym (get_or_push rows row [] i (sym same ∙ at))) own)
]

-- the record of a pool
view_is : (files : List File) (kept : List Bool) (pool first : ℕ) (p : Placed) → IsPooled files kept pool p → first ≡ (pool_site files kept pool).section →
    pool_view files (record { first = first; size = p.size }) p.pieces.items ≡ pool_of files kept pool
unfolding pool_of
view_is files kept pool first p is start =
    let pieces = map (piece_text files) p.pieces.items in
    let positions = map (λ (piece : Piece). piece.position) p.pieces.items in
    let known = pool_pieces files kept pool in
    let own = (pool_site files kept pool).section in
    let align = pool_align files kept pool in
    ap (λ x. record { first = x; pieces = pieces; positions = positions; size = p.size }) start
    ∙ ap (λ x. record { first = own; pieces = x; positions = positions; size = p.size }) is.pieces_are
    ∙ ap (λ x. record { first = own; pieces = known; positions = x; size = p.size }) is.positions_are
    ∙ ap (λ x. record { first = own; pieces = known; positions = positions_from align 0 known; size = x }) is.size_is

-- a place that passes is among those that are left
abbrev Has : List ℕ → ℕ → Type 0
Has xs i = (j : ℕ) × (j < length xs) × (get_or xs j 0 ≡ i)

has_first : (b : Bool) (x : ℕ) (rest : List ℕ) (i : ℕ) → b ≡ true → x ≡ i → Has (cond b (x ∷ rest) rest) i
has_first true x rest i e is = (0, omega arith, is)
has_first false x rest i e is = cc

has_later : (b : Bool) (x : ℕ) (rest : List ℕ) (i : ℕ) → Has rest i → Has (cond b (x ∷ rest) rest) i
has_later true x rest i more = let less = more.1 in (suc more.0, omega (arith, less), more.2)
has_later false x rest i more = more

filter_has : (t : ℕ → Bool) (xs : List ℕ) (i k : ℕ) → k < length xs → get_or xs k 0 ≡ i → t i ≡ true → Has (filter t xs) i
filter_has t [] i k lt is passes = absurd (omega arith)
filter_has t (x ∷ xs) i zero lt is passes = has_first (t x) x (filter t xs) i (ap t is ∙ passes) is
filter_has t (x ∷ xs) i (suc k) lt is passes = has_later (t x) x (filter t xs) i (filter_has t xs i k (omega arith) is passes)

member_has : (files : List File) (kept : List Bool) (pool i : ℕ) → i < length (sites files kept) → pool_number files kept (nth_site files kept i) ≡ pool →
    (j : ℕ) × (j < length (members_at files kept pool)) × (get_or (members_at files kept pool) j 0 ≡ i)
unfolding members_at
member_has files kept pool i lt own =
    let n = length (sites files kept) in
    let at = get_or-range_with_len 0 n i 0 lt in
    filter_has (λ i. pool_number files kept (nth_site files kept i) == pool) (range_with_len 0 n) i i
    (omega (arith, length-range_with_len 0 n)) (omega arith) (eq-eqb (pool_number files kept (nth_site files kept i)) pool own)

pub filled_next : (w : Work) (pool first : ℕ) (p : Placed) (old mid new : Filled) → IsWork w → pool < length w.firsts.now → IsFilledTo w pool old →
    IsPooled (files_of w.tables.now) w.kept.now pool p → first ≡ (pool_site (files_of w.tables.now) w.kept.now pool).section →
    AreAnswered w (members_at (files_of w.tables.now) w.kept.now pool) old mid → AddsPool first p mid new → IsFilledTo w (pool + 1) new
filled_next w pool first p old mid new is less held pooled start answered adds =
    let files = files_of w.tables.now in
    let kept = w.kept.now in
    let here : Pool = record { first = first; size = p.size } in
    let pieces = p.pieces.items in
    let pools : new.pools.items ≡ old.pools.items ++ here ∷ [] = adds.pools ∙ ap (λ l. l ++ here ∷ []) answered.pools in
    let rows : new.rows.pieces ≡ old.rows.pieces ++ pieces ∷ [] = adds.pieces ∙ ap (λ l. l ++ pieces ∷ []) answered.pieces in
    let Q : List (List Part) → Type 0 = All AreInOrder in
    let moved : (i : ℕ) → IsAnswered w mid.rows.parts mid.answers.items i → IsAnswered w new.rows.parts new.answers.items i =
    λ i known.
    let R : List (List Part) → Type 0 = λ l. IsAnswered w l new.answers.items i in
    let S : List HeldMerged → Type 0 = λ l. IsAnswered w mid.rows.parts l i in
    subst R (sym adds.parts) (subst S (sym adds.answers) known) in
    record {
      pools_are = map_step (pool_of files kept) pool (pool_views files old.pools.items old.rows.pieces) (pool_views files new.pools.items new.rows.pieces) held.pools_are
          (ap (λ l. pool_views files l new.rows.pieces) pools ∙ ap (pool_views files (old.pools.items ++ here ∷ [])) rows
          ∙ views_push files old.pools.items old.rows.pieces here pieces held.paired
          ∙ ap (λ v. pool_views files old.pools.items old.rows.pieces ++ v ∷ []) (view_is files kept pool first p pooled start));
      paired = ap length pools ∙ length-append old.pools.items (here ∷ []) ∙ ap (λ n. n + 1) held.paired ∙ sym (length-append old.rows.pieces (pieces ∷ [])) ∙ ap length (sym rows);
      piled =
          let P : List Pool → Type 0 = λ l. ArePiles l new.rows.pieces in
          let R : List (List Piece) → Type 0 = λ l. ArePiles (old.pools.items ++ here ∷ []) l in
          subst P (sym pools) (subst R (sym rows) (piles_push old.pools.items old.rows.pieces here pieces held.paired held.piled (pooled.piled here refl)));
      rows = omega (arith, ap length adds.parts, answered.rows, held.rows, count_below files kept pool);
      room =
          let bytes : pool_bytes new.pools.items ≡ pool_bytes old.pools.items + p.size = ap pool_bytes pools ∙ sum_by_push (λ (x : Pool). x.size) old.pools.items here in
          let room = pool_room files kept pool (pool_align files kept pool) (align_some files (pool_site files kept pool)) (align_most w pool is less) in
          omega (arith, bytes, pooled.size_is, room, held.room, rooms_below files kept pool);
      ordered = subst Q (sym adds.parts) (answered.ordered held.ordered);
      count = ap length adds.answers ∙ answered.count ∙ held.count;
      answered = λ i lt low. elim (cases_lt (pool_number files kept (nth_site files kept i)) pool) [
        | inl before ↦ moved i (answered.keeps i (held.answered i lt before))
        | inr at ↦
            let own : pool_number files kept (nth_site files kept i) ≡ pool = omega arith in
            let has = member_has files kept pool i (omega (arith, count_sites w is)) own in
            let T : ℕ → Type 0 = λ k. IsAnswered w new.rows.parts new.answers.items k in
            subst T has.2 (moved (get_or (members_at files kept pool) has.0 0) (answered.adds has.0 0 has.1))
      ];
    }
