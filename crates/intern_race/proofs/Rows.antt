-- The texts of rows, by number.
use Rattle.std.proofs.Common.{◌≡◌, ℕ, zero, suc, ◌-◌, ◌<◌, ◌≤◌, List, [], ◌∷◌, ◌++◌, length, map, flat_map, get_or, take, drop, min, append_assoc, append-nil, refl, sym, ap, ◌∙◌, subst, ⊎_elim, inl, inr, arith}
use Rattle.std.specs.Borrow.{Bor}
use Rattle.std.proofs.Math.Seq.{drop-cons, get_or-append_right, take-nil}
use Rattle.std.proofs.lemmas.Bool.{cases_lt}
use Rattle.std.proofs.lemmas.List.{drop_all, get_or_append_left, get_or_push, length-append, length-drop, map_push, take-append-drop, take_all, length_push, take-append-le}
use Rattle.std.proofs.lemmas.List.Concat.{flat_map-append}
use Rattle.std.proofs.lemmas.List.FromFn.{get_or-map-range_with_len, length-map-range_with_len}
use Rattle.intern_race.specs.declared.texts.Row.{Row}
use Rattle.intern_race.specs.Texts.{AreCounted, IsRowOf, all_texts, cut_text, cut_texts, lent_texts, no_row, row_texts, start_of, text_at, texts_in}

abbrev row_at : List Row → ℕ → Row
row_at rows r = get_or rows r no_row

abbrev texts_of_row : Row → List (List ℕ)
texts_of_row row = texts_in row.cut

-- a row more
pub row_texts-push : (rows : List Row) (row : Row) → row_texts (rows ++ row ∷ []) ≡ row_texts rows ++ texts_in row.cut
row_texts-push rows row = flat_map-append texts_of_row rows (row ∷ []) ∙ ap (λ l. row_texts rows ++ l) (append-nil (texts_in row.cut))

pub all_texts-push : (singles : List (Bor (List ℕ))) (rows more : List Row) (row : Row) → more ≡ rows ++ row ∷ [] → all_texts singles more ≡ all_texts singles rows ++ texts_in row.cut
all_texts-push singles rows more row is =
    ap (λ l. lent_texts singles ++ row_texts l) is ∙ ap (λ l. lent_texts singles ++ l) (row_texts-push rows row) ∙ sym (append_assoc (lent_texts singles) (row_texts rows) (texts_in row.cut))

-- a single text more, where there are no rows
pub singles_push : (singles more : List (Bor (List ℕ))) (rows : List Row) (text : Bor (List ℕ)) → rows ≡ [] → more ≡ singles ++ text ∷ [] → all_texts more rows ≡ all_texts singles rows ++ text.now ∷ []
singles_push singles more rows text empty is =
    let now : Bor (List ℕ) → List ℕ = λ t. t.now in
    let pushed : List (List ℕ) = lent_texts singles ++ text.now ∷ [] in
    ap (λ l. lent_texts l ++ row_texts rows) is ∙ ap (λ l. l ++ row_texts rows) (map_push now singles text) ∙ ap (λ r. pushed ++ row_texts r) empty ∙ append-nil pushed
    ∙ ap (λ l. l ++ text.now ∷ []) (sym (append-nil (lent_texts singles))) ∙ ap (λ r. (lent_texts singles ++ row_texts r) ++ text.now ∷ []) (sym empty)

pub counted_push : (rows : List Row) (row : Row) → row.before ≡ length (row_texts rows) → AreCounted rows → AreCounted (rows ++ row ∷ [])
counted_push rows row is counted r lt =
    let long = length_push rows row in
    ⊎_elim
    (λ (old : r < length rows).
    ap (λ (x : Row). x.before) (get_or_append_left rows (row ∷ []) no_row r old) ∙ counted r old ∙ ap (λ l. length (row_texts l)) (sym (take-append-le r rows (row ∷ []) (omega (arith, old)))))
    (λ (new : length rows ≤ r).
    let same : length rows ≡ r = omega (arith, long, lt, new) in
    let At : ℕ → Type 0 = λ k. (row_at (rows ++ row ∷ []) k).before ≡ length (row_texts (take k (rows ++ row ∷ []))) in
    let whole : take (length rows) (rows ++ row ∷ []) ≡ rows = take-append-le (length rows) rows (row ∷ []) (omega arith) ∙ take_all (length rows) rows (omega arith) in
    subst At same (ap (λ (x : Row). x.before) (get_or_push rows row no_row (length rows) refl) ∙ is ∙ ap (λ l. length (row_texts l)) (sym whole)))
    (cases_lt r (length rows))

-- the texts of the rows before one, and those of the next
pub row_text : (rows : List Row) (i r : ℕ) → AreCounted rows → IsRowOf rows i r → text_at (row_texts rows) i ≡ text_at (texts_in (row_at rows r).cut) (i - (row_at rows r).before)
row_text rows i r counted is =
    let row : Row = row_at rows r in
    let own : List (List ℕ) = texts_in row.cut in
    let left : List (List ℕ) = row_texts (take r rows) in
    let rest : List (List ℕ) = row_texts (drop (suc r) rows) in
    let before = counted r is.within in
    let from = is.from in
    let below = is.below in
    let whole : row_texts rows ≡ left ++ (own ++ rest) =
    ap row_texts (sym (take-append-drop r rows)) ∙ flat_map-append texts_of_row (take r rows) (drop r rows) ∙ ap (λ l. left ++ row_texts l) (drop-cons rows r no_row is.within) in
    let place : i - length left ≡ i - row.before = ap (λ k. i - k) (sym before) in
    ap (λ l. text_at l i) whole ∙ get_or-append_right left (own ++ rest) i [] (omega (arith, before, from)) ∙ ap (λ k. text_at (own ++ rest) k) place
    ∙ get_or_append_left own rest [] (i - row.before) below

-- a text of bytes that are cut at ends
pub cut_at : (bytes ends : List ℕ) (k : ℕ) → k < length ends → text_at (cut_texts bytes ends) k ≡ cut_text bytes ends k
unfolding cut_texts
cut_at bytes ends k lt = get_or-map-range_with_len (cut_text bytes ends) 0 (length ends) k k [] lt (omega arith)

pub length-cut_texts : (bytes ends : List ℕ) → length (cut_texts bytes ends) ≡ length ends
unfolding cut_texts
length-cut_texts bytes ends = length-map-range_with_len (cut_text bytes ends) 0 (length ends)

-- where a text starts whose end is not the first
pub start_after : (ends : List ℕ) (k : ℕ) → 0 < k → get_or ends (k - 1) 0 ≡ start_of ends k
start_after ends zero some = absurd (omega (arith, some))
start_after ends (suc k) some = let one : suc k - 1 ≡ k = omega arith in ap (λ j. get_or ends j 0) one

-- bytes between two places, of which none is past the end

clip_past : (bytes : List ℕ) (start end to : ℕ) → to ≡ min end (length bytes) → to < start → take (end - start) (drop start bytes) ≡ []
clip_past bytes start end to last past = ⊎_elim
    (λ (beyond : length bytes < end). ap (take (end - start)) (drop_all start bytes (omega (arith, past, beyond, last))) ∙ take-nil (end - start))
    (λ (within : end ≤ length bytes). let none : end - start ≡ 0 = omega (arith, past, within, last) in ap (λ n. take n (drop start bytes)) none)
    (cases_lt (length bytes) end)

clip_low : (bytes : List ℕ) (start end to : ℕ) → to ≡ min end (length bytes) → start ≤ to → take (to - start) (drop start bytes) ≡ take (end - start) (drop start bytes)
clip_low bytes start end to last low = ⊎_elim
    (λ (beyond : length bytes < end).
    take_all (to - start) (drop start bytes) (omega (arith, beyond, last, length-drop start bytes)) ∙ sym (take_all (end - start) (drop start bytes) (omega (arith, beyond, last, length-drop start bytes))))
    (λ (within : end ≤ length bytes). let same : to ≡ end = omega (arith, within, last) in ap (λ n. take (n - start) (drop start bytes)) same)
    (cases_lt (length bytes) end)

pub clipped : (bytes : List ℕ) (start end from to : ℕ) → to ≡ min end (length bytes) → from ≡ min start to → take (to - from) (drop from bytes) ≡ take (end - start) (drop start bytes)
clipped bytes start end from to last first = ⊎_elim
    (λ (past : to < start).
    let none : to - from ≡ 0 = omega (arith, past, first) in
    ap (λ n. take n (drop from bytes)) none ∙ sym (clip_past bytes start end to last past))
    (λ (low : start ≤ to).
    let here : from ≡ start = omega (arith, low, first) in
    ap (λ k. take (to - k) (drop k bytes)) here ∙ clip_low bytes start end to last low)
    (cases_lt to start)

-- a row that is added
pub ruleset row_steps = (all_texts-push, counted_push, row_texts-push, length-append)
