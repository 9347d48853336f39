-- Rows that are added to others, and how one is read.
use Rattle.std.proofs.Common.{◌≡◌, ℕ, zero, suc, ◌+◌, ◌-◌, ◌<◌, ◌≤◌, List, [], ◌∷◌, ◌++◌, length, map, take, drop, flat_map, get_or, inl, inr, All, refl, sym, ap, ◌∙◌, subst, arith, append_assoc}
use Rattle.std.proofs.Math.Seq.{take-append_seam, drop-append_seam, drop-append-add}
use Rattle.std.proofs.lemmas.Bool.{cases_lt}
use Rattle.std.proofs.lemmas.Grind.{flat_map-append}
use Rattle.std.proofs.lemmas.List.{append-nil, length-append}
use Rattle.std.proofs.Math.ListN.{get_or-eq_default}
use Rattle.flat_rows.specs.Laid.{AreLaid, cut, ends, rows_in}

abbrev joined : {X : Type 0} → List (List X) → List X
joined rows = flat_map (λ row. row) rows

ends_append : {X : Type 0} (a : ℕ) (rows more : List (List X)) → ends a (rows ++ more) ≡ ends a rows ++ ends (a + length (joined rows)) more
ends_append a [] more = let e : a ≡ a + 0 = omega arith in ap (λ k. ends k more) e
ends_append a (r ∷ rs) more =
    let e : (a + length r) + length (joined rs) ≡ a + length (r ++ joined rs) = omega (arith, length-append r (joined rs)) in
    ap (λ l. (a + length r) ∷ l) (ends_append (a + length r) rs more ∙ ap (λ k. ends (a + length r) rs ++ ends k more) e)

ends_shift : {X : Type 0} (a b : ℕ) (rows : List (List X)) → ends (a + b) rows ≡ map (λ end. a + end) (ends b rows)
ends_shift a b [] = refl
ends_shift a b (r ∷ rs) =
    let e : (a + b) + length r ≡ a + (b + length r) = omega arith in
    ap (λ k. k ∷ ends k rs) e ∙ ap (λ l. (a + (b + length r)) ∷ l) (ends_shift a (b + length r) rs)

-- a buffer that is cut at the ends of the rows gives the rows
cut_ends : {X : Type 0} (a : ℕ) (rows : List (List X)) → cut a (ends a rows) (joined rows) ≡ rows
cut_ends a [] = refl
cut_ends a (r ∷ rs) =
    let e : (a + length r) - a ≡ length r = omega arith in
    let b : ℕ = a + length r in
    ap (λ k. take k (r ++ joined rs) ∷ cut b (ends b rs) (drop k (r ++ joined rs))) e
    ∙ ap (λ l. l ∷ cut b (ends b rs) (drop (length r) (r ++ joined rs))) (take-append_seam r (joined rs))
    ∙ ap (λ l. r ∷ cut b (ends b rs) l) (drop-append_seam r (joined rs))
    ∙ ap (λ l. r ∷ l) (cut_ends b rs)

pub view_is_rows : {X : Type 0} (rows : List (List X)) (firsts : List ℕ) (items : List X) → AreLaid rows firsts items → rows_in firsts items ≡ rows
view_is_rows rows firsts items laid =
    ap (λ l. cut 0 (drop 1 l) items) laid.firsts_are ∙ ap (cut 0 (ends 0 rows)) laid.items_are ∙ cut_ends 0 rows

-- so the rows of the buffer stand there
pub laid_in : {X : Type 0} (rows : List (List X)) (firsts : List ℕ) (items : List X) → AreLaid rows firsts items → AreLaid (rows_in firsts items) firsts items
laid_in rows firsts items laid = subst (λ (l : List (List _)). AreLaid l firsts items) (sym (view_is_rows rows firsts items laid)) laid

-- more rows
pub laid_append : {X : Type 0} (rows more : List (List X)) (firsts firsts' others : List ℕ) (items items' those : List X) →
    AreLaid rows firsts items → AreLaid more others those →
    firsts' ≡ firsts ++ map (λ end. length items + end) (drop 1 others) → items' ≡ items ++ those → AreLaid (rows ++ more) firsts' items'
laid_append rows more firsts firsts' others items items' those laid laid_more firsts_are items_are =
    let n : ℕ = length items in
    let count : n ≡ 0 + length (joined rows) = omega (arith, ap length laid.items_are) in
    let plus : n ≡ n + 0 = omega arith in
    record {
      firsts_are =
          firsts_are ∙ ap (λ l. firsts ++ map (λ end. n + end) (drop 1 l)) laid_more.firsts_are
          ∙ ap (λ l. l ++ map (λ end. n + end) (ends 0 more)) laid.firsts_are
          ∙ ap (λ l. 0 ∷ (ends 0 rows ++ l)) (sym (ends_shift n 0 more) ∙ ap (λ k. ends k more) (sym plus ∙ count))
          ∙ ap (λ l. 0 ∷ l) (sym (ends_append 0 rows more));
      items_are =
          items_are ∙ ap (λ l. l ++ those) laid.items_are ∙ ap (λ l. joined rows ++ l) laid_more.items_are
          ∙ sym (flat_map-append (λ row. row) rows more);
    }

-- one row more
pub laid_push : {X : Type 0} (rows : List (List X)) (row : List X) (firsts room firsts' : List ℕ) (items items' : List X) (n : ℕ) →
    AreLaid rows firsts items → room ≡ firsts → firsts' ≡ room ++ n ∷ [] → n ≡ length items' → items' ≡ items ++ row →
    AreLaid (rows ++ row ∷ []) firsts' items'
laid_push rows row firsts room firsts' items items' n laid room_is firsts_are n_is items_are =
    let long : n ≡ length items + (0 + length row) = omega (arith, n_is, ap length items_are, length-append items row) in
    laid_append rows (row ∷ []) firsts firsts' (0 ∷ ends 0 (row ∷ [])) items items' row laid
    (record { firsts_are = refl; items_are = sym (append-nil row) })
    (firsts_are ∙ ap (λ l. l ++ n ∷ []) room_is ∙ ap (λ k. firsts ++ k ∷ []) long) items_are

-- the first row with items
after_none : {X : Type 0} (items row : List X) → length items ≡ 0 → row ≡ items ++ row
after_none [] row none = refl
after_none (x ∷ items) row none = absurd (omega (arith, none))

pub none_before : {X : Type 0} (rows seen : List (List X)) (firsts firsts' : List ℕ) (items items' row : List X) (n : ℕ) →
    AreLaid rows firsts items → AreLaid seen firsts' items' → rows ≡ seen → n ≡ length items → n ≡ 0 → row ≡ items' ++ row
none_before rows seen firsts firsts' items items' row n laid laid' same count none =
    after_none items' row (omega (arith, count, none, ap length laid.items_are, ap length laid'.items_are, ap (λ l. length (joined l)) same))

-- the ends of a buffer's rows, moved by the items before them
ends_below : {X : Type 0} (base m a : ℕ) (rows : List (List X)) → base + (a + length (joined rows)) < m → All (λ end. base + end < m) (ends a rows)
ends_below base m a [] low = λ k d lt. absurd (omega (arith, lt))
ends_below base m a (r ∷ rs) low = λ k d lt. elim (cases_lt 0 k) [
  | inr first ↦
      let zero_is : k ≡ 0 = omega (arith, first) in
      let head : get_or ((a + length r) ∷ ends (a + length r) rs) k d ≡ a + length r = ap (λ i. get_or ((a + length r) ∷ ends (a + length r) rs) i d) zero_is in
      omega (arith, head, low, length-append r (joined rs))
  | inl later ↦
      let next : k ≡ suc (k - 1) = omega (arith, later) in
      let tail : get_or ((a + length r) ∷ ends (a + length r) rs) k d ≡ get_or (ends (a + length r) rs) (k - 1) d = ap (λ i. get_or ((a + length r) ∷ ends (a + length r) rs) i d) next in
      omega (arith, tail, ends_below base m (a + length r) rs (omega (arith, low, length-append r (joined rs))) (k - 1) d (omega (arith, lt, later)))
]

pub moved_below : {X : Type 0} (rows : List (List X)) (firsts : List ℕ) (items : List X) (base m : ℕ) (others : List ℕ) →
    AreLaid rows firsts items → base + length items < m → others ≡ drop 1 firsts → All (λ end. base + end < m) others
moved_below rows firsts items base m others laid low others_are =
    subst (All (λ end. base + end < m)) (sym (others_are ∙ ap (drop 1) laid.firsts_are))
    (ends_below base m 0 rows (omega (arith, low, ap length laid.items_are)))

-- the rows of another buffer after these, as the code adds them
pub laid_after : {X : Type 0} (rows more : List (List X)) (firsts firsts' others those_ends : List ℕ) (items room items' those : List X) (n : ℕ) →
    AreLaid rows firsts items → AreLaid more others those → room ≡ items → n ≡ length room → those_ends ≡ drop 1 others →
    firsts' ≡ firsts ++ map (λ end. n + end) those_ends → items' ≡ room ++ those → AreLaid (rows ++ more) firsts' items'
laid_after rows more firsts firsts' others those_ends items room items' those n laid laid_more room_is n_is ends_are firsts_are items_are =
    let long = n_is ∙ ap length room_is in
    laid_append rows more firsts firsts' others items items' those laid laid_more
    (firsts_are ∙ ap (λ k. firsts ++ map (λ end. k + end) those_ends) long ∙ ap (λ l. firsts ++ map (λ end. length items + end) l) ends_are)
    (items_are ∙ ap (λ l. l ++ those) room_is)

-- the row of a number stands from its start to the start of the next one
row_read : {X : Type 0} (a n : ℕ) (rows : List (List X)) (pre : List X) → length pre ≡ a → n < length rows →
    take (get_or (a ∷ ends a rows) (suc n) 0 - get_or (a ∷ ends a rows) n 0) (drop (get_or (a ∷ ends a rows) n 0) (pre ++ joined rows)) ≡ get_or rows n []
row_read a n [] pre long lt = absurd (omega (arith, lt))
row_read a zero (r ∷ rs) pre long lt =
    let e : (a + length r) - a ≡ length r = omega arith in
    let at : a ≡ length pre + 0 = omega (arith, long) in
    ap (λ k. take k (drop a (pre ++ (r ++ joined rs)))) e ∙ ap (λ k. take (length r) (drop k (pre ++ (r ++ joined rs)))) at
    ∙ ap (take (length r)) (drop-append-add pre (r ++ joined rs) 0) ∙ take-append_seam r (joined rs)
row_read a (suc n) (r ∷ rs) pre long lt =
    let b : ℕ = a + length r in
    let from : ℕ = get_or (b ∷ ends b rs) n 0 in
    ap (λ l. take (get_or (b ∷ ends b rs) (suc n) 0 - from) (drop from l)) (sym (append_assoc pre r (joined rs)))
    ∙ row_read b n rs (pre ++ r) (length-append pre r ∙ ap (λ k. k + length r) long) (omega (arith, lt))

-- it lies within the buffer
row_within : {X : Type 0} (a n : ℕ) (rows : List (List X)) → n < length rows →
    (get_or (a ∷ ends a rows) n 0 ≤ get_or (a ∷ ends a rows) (suc n) 0) × (get_or (a ∷ ends a rows) (suc n) 0 ≤ a + length (joined rows))
row_within a n [] lt = absurd (omega (arith, lt))
row_within a zero (r ∷ rs) lt = (omega arith, omega (arith, length-append r (joined rs)))
row_within a (suc n) (r ∷ rs) lt =
    let w = row_within (a + length r) n rs (omega (arith, lt)) in
    (w.0, omega (arith, w.1, length-append r (joined rs)))

ends_count : {X : Type 0} (a : ℕ) (rows : List (List X)) → length (ends a rows) ≡ length rows
ends_count a [] = refl
ends_count a (r ∷ rs) = ap suc (ends_count (a + length r) rs)

pub firsts_count : {X : Type 0} (rows : List (List X)) (firsts : List ℕ) (items : List X) → AreLaid rows firsts items → length firsts ≡ length rows + 1
firsts_count rows firsts items laid = omega (arith, ap length laid.firsts_are, ends_count 0 rows)

pub read_within : {X : Type 0} (rows : List (List X)) (firsts : List ℕ) (items : List X) (n : ℕ) → AreLaid rows firsts items → n < length rows →
    (get_or firsts n 0 ≤ get_or firsts (n + 1) 0) × (get_or firsts (n + 1) 0 ≤ length items)
read_within rows firsts items n laid lt =
    let w = row_within 0 n rows lt in
    let low : get_or firsts n 0 ≡ get_or (0 ∷ ends 0 rows) n 0 = ap (λ l. get_or l n 0) laid.firsts_are in
    let next : n + 1 ≡ suc n = omega arith in
    let high : get_or firsts (n + 1) 0 ≡ get_or (0 ∷ ends 0 rows) (suc n) 0 = ap (λ l. get_or l (n + 1) 0) laid.firsts_are ∙ ap (λ k. get_or (0 ∷ ends 0 rows) k 0) next in
    (omega (arith, w.0, low, high), omega (arith, w.1, high, ap length laid.items_are))

pub read_row : {X : Type 0} (rows : List (List X)) (firsts : List ℕ) (items : List X) (n : ℕ) → AreLaid rows firsts items → n < length rows →
    take (get_or firsts (n + 1) 0 - get_or firsts n 0) (drop (get_or firsts n 0) items) ≡ get_or rows n []
read_row rows firsts items n laid lt =
    let next : n + 1 ≡ suc n = omega arith in
    let from : ℕ = get_or (0 ∷ ends 0 rows) n 0 in
    ap (λ l. take (get_or l (n + 1) 0 - get_or l n 0) (drop (get_or l n 0) items)) laid.firsts_are
    ∙ ap (λ l. take (get_or (0 ∷ ends 0 rows) (n + 1) 0 - from) (drop from l)) laid.items_are
    ∙ ap (λ k. take (get_or (0 ∷ ends 0 rows) k 0 - from) (drop from (joined rows))) next
    ∙ row_read 0 n rows [] refl lt

-- past the last row
pub read_past : {X : Type 0} (rows seen : List (List X)) (firsts : List ℕ) (items : List X) (n m : ℕ) → AreLaid rows firsts items → rows ≡ seen →
    m ≡ length firsts → m - 1 ≤ n → [] ≡ get_or seen n []
read_past rows seen firsts items n m laid same m_is past =
    sym (get_or-eq_default seen [] (omega (arith, past, m_is, firsts_count rows firsts items laid, ap length same)))
