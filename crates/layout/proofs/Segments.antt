-- The segments of a layout end within the file and the image, where they have bytes.
use Rattle.std.proofs.Common.{◌≡◌, ℕ, ◌+◌, ◌%◌, ◌<◌, ◌≤◌, ◌&&◌, Bool, true, false, not, max, if◌then◌else◌, List, [], ◌∷◌, All, refl, ap, sym, ◌∙◌, subst, ◌⊎◌, inl, inr, arith}
use Rattle.std.specs.List.{fold}
use Rattle.std.proofs.lemmas.Bool.{cases_Bool}
use Rattle.std.proofs.lemmas.List.Elements.{All-nil, All-head, All-tail, All-cons}
use Rattle.lk_base.specs.declared.abi.TheConstants.{ALIGN_MAX}
use Rattle.lk_base.specs.Arithmetic.{up}
use Rattle.lk_base.proofs.Multiples.{up_least, up_multiple}
use Rattle.link_sections.specs.declared.layouts.Bounds.{Bounds}
use Rattle.link_sections.specs.Cuts.{Cut}
use Rattle.lk_tables.specs.declared.classes.Class.TheVariants.{Rx, TlsBits, TlsNobits, RwBits, RwNobits}
use Rattle.output_sections.specs.declared.rows.Row.{Row}
use Rattle.layout.specs.declared.walk.Cursor.{Cursor}
use Rattle.layout.specs.Layout.{FrameSizes, after_tls_bits, count_of, has_frames, has_rw, has_rx, has_tls, has_tls_bits, headers_of, tls_align_of, tls_cursor}
use Rattle.output_sections.specs.Order.{Orders, rows_in}
use Rattle.layout.specs.Spots.{AreRising, HaveSegments}
use Rattle.layout.specs.Walk.{after, cursor_at, end_along, greatest, is_empty, past, runs, start_of}
use Rattle.layout.proofs.Chain.{AreBounds}
use Rattle.layout.proofs.Cursors.{RowFits, after_moves, greatest_some, least_along, past_least}
use Rattle.layout.proofs.FrameSpots.{has_them}
use Rattle.layout.proofs.Inside.{each_none, none_each}
use Rattle.layout.proofs.Rising.{AllFit, class_moves, tls_most}
use Rattle.layout.proofs.Runs.{EachRun, each_run, of_runs}

-- a class with no byte does not move the cursor
still_one : (sizes : List (List Cut)) (c : Cursor) (o : List Row) → is_empty o ≡ true → after sizes c o ≡ c
unfolding after
still_one sizes c o e = rw e refl

still_along : (sizes : List (List Cut)) (c : Cursor) (os : List (List Row)) → EachRun (λ row. row.size ≡ 0) os → end_along sizes c os ≡ c
still_along sizes c [] all = refl
still_along sizes c (o ∷ os) all = rw (still_one sizes c o (each_none o all.0)) (still_along sizes c os all.1)

still : (sizes : List (List Cut)) (c : Cursor) (rows : List Row) → is_empty rows ≡ true → end_along sizes c (runs rows) ≡ c
still sizes c rows e = still_along sizes c (runs rows) (each_run (λ row. row.size ≡ 0) rows (none_each rows e))

-- one with a byte passes the alignment that its first output section with a byte takes
greatest_to : (most g : ℕ) (rows : List Row) → g ≤ most → All (λ row. row.align ≤ most) rows → fold (λ found row. max found row.align) g rows ≤ most
greatest_to most g [] le all = le
greatest_to most g (row ∷ rows) le all =
    let one : row.align ≤ most = All-head (λ (r : Row). r.align ≤ most) row rows all in
    greatest_to most (max g row.align) rows (omega arith) (All-tail (λ (r : Row). r.align ≤ most) row rows all)

greatest_below : (most : ℕ) (rows : List Row) → 1 ≤ most → All (λ row. row.align ≤ most) rows → greatest rows ≤ most
unfolding greatest
greatest_below most rows some all = greatest_to most 1 rows some all

start_extra : (b : Bool) (c : Cursor) (rows : List Row) → is_empty rows ≡ b → b ≡ false → greatest rows ≤ c.extra → start_of c rows ≡ up c.at c.extra
unfolding start_of
start_extra true c rows e no_bytes most = cc
start_extra false c rows e no_bytes most =
    let same : max c.extra (greatest rows) ≡ c.extra = omega arith in
    rw e (ap (up c.at) same)

after_full : (sizes : List (List Cut)) (c : Cursor) (rows : List Row) → is_empty rows ≡ false → after sizes c rows ≡ cursor_at (past sizes (start_of c rows) rows)
unfolding after
after_full sizes c rows e = rw e refl

reached_along : (sizes : List (List Cut)) (c : Cursor) (os : List (List Row)) → c.extra ≤ ALIGN_MAX → 1 ≤ c.extra → EachRun (RowFits sizes) os → EachRun (λ row. row.align ≤ c.extra) os
    → (EachRun (λ row. row.size ≡ 0) os → ⊥) → up c.at c.extra ≤ (end_along sizes c os).at
reached_along sizes c [] extra some fit most bytes = absurd (bytes tt)
reached_along sizes c (o ∷ os) extra some fit most bytes =
    elim (cases_Bool (is_empty o)) [
      | inl none ↦
          let same : after sizes c o ≡ c = still_one sizes c o none in
          let rest : up c.at c.extra ≤ (end_along sizes c os).at = reached_along sizes c os extra some fit.1 most.1 (λ nobits_members. bytes (none_each o none, nobits_members)) in
          subst (λ x. up c.at c.extra ≤ (end_along sizes x os).at) (sym same) rest
      | inr full ↦
          let start : start_of c o ≡ up c.at c.extra = start_extra (is_empty o) c o refl full (greatest_below c.extra o some most.0) in
          let here : start_of c o ≤ past sizes (start_of c o) o = past_least sizes (start_of c o) o fit.0 in
          let moves = after_moves sizes c o extra fit.0 in
          let later : (after sizes c o).at ≤ (end_along sizes (after sizes c o) os).at = least_along sizes (after sizes c o) os moves.extra fit.1 in
          let at : (after sizes c o).at ≡ past sizes (start_of c o) o = ap (λ (x : Cursor). x.at) (after_full sizes c o full) in
          omega (arith, start, here, at, later)
    ]

has_bytes : (rows : List Row) → is_empty rows ≡ false → EachRun (λ row. row.size ≡ 0) (runs rows) → ⊥
has_bytes rows full nobits_members =
    let none : is_empty rows ≡ true = each_none rows (of_runs (λ row. row.size ≡ 0) rows nobits_members) in
    let wrong : true ≡ false = sym none ∙ full in cc

reached : (sizes : List (List Cut)) (c : Cursor) (rows : List Row) → c.extra ≤ ALIGN_MAX → 1 ≤ c.extra → All (RowFits sizes) rows → All (λ row. row.align ≤ c.extra) rows
    → is_empty rows ≡ false → up c.at c.extra ≤ (end_along sizes c (runs rows)).at
reached sizes c rows extra some fit most full =
    reached_along sizes c (runs rows) extra some (each_run (RowFits sizes) rows fit) (each_run (λ row. row.align ≤ c.extra) rows most) (has_bytes rows full)

-- no member has a greater alignment than the greatest
greatest_keeps : (g : ℕ) (rows : List Row) → g ≤ fold (λ found row. max found row.align) g rows
greatest_keeps g [] = omega arith
greatest_keeps g (row ∷ rows) = let more : max g row.align ≤ fold (λ found row. max found row.align) (max g row.align) rows = greatest_keeps (max g row.align) rows in omega arith

each_below : (g : ℕ) (rows : List Row) → All (λ row. row.align ≤ fold (λ found row. max found row.align) g rows) rows
each_below g [] = All-nil (λ row. row.align ≤ g)
each_below g (row ∷ rows) =
    let most : ℕ = fold (λ found row. max found row.align) (max g row.align) rows in
    let kept : max g row.align ≤ most = greatest_keeps (max g row.align) rows in
    All-cons (λ r. r.align ≤ most) row rows (omega arith) (each_below (max g row.align) rows)

below_greatest : (rows : List Row) → All (λ row. row.align ≤ greatest rows) rows
unfolding greatest
below_greatest rows = each_below 1 rows

tls_rows : (o : Orders) → (1 ≤ tls_align_of o) × (All (λ row. row.align ≤ tls_align_of o) (rows_in o TlsBits) × All (λ row. row.align ≤ tls_align_of o) (rows_in o TlsNobits))
unfolding tls_align_of
tls_rows o =
    let bits = below_greatest (rows_in o TlsBits) in
    let nobits = below_greatest (rows_in o TlsNobits) in
    (omega (arith, greatest_some (rows_in o TlsBits)), ((λ k d lt. omega (arith, bits k d lt)), (λ k d lt. omega (arith, nobits k d lt))))

rx_by : (p q s : Bool) (r x t w : ℕ) → not s ≡ true → x ≤ t → t ≤ w → x ≤ (if not p then w else if not q then t else if not s then x else r)
rx_by p q true r x t w some xt tw = cc
rx_by false q false r x t w some xt tw = omega arith
rx_by true false false r x t w some xt tw = omega arith
rx_by true true false r x t w some xt tw = omega arith

tls_by : (p q s : Bool) (r x t w : ℕ) → not q ≡ true → t ≤ w → t ≤ (if not p then w else if not q then t else if not s then x else r)
tls_by p true s r x t w some tw = cc
tls_by false false s r x t w some tw = omega arith
tls_by true false s r x t w some tw = omega arith

bits_by : (p q s : Bool) (r x t w : ℕ) → (p ≡ true → w ≡ t) → t < w → w ≤ (if not p then w else if not q then t else if not s then x else r)
bits_by true q s r x t w none some = let same : w ≡ t = none refl in absurd (omega arith)
bits_by false q s r x t w none some = omega arith

rw_by : (p q z s : Bool) (r x t w n : ℕ) → not (q && (p && z)) ≡ true → (z ≡ true → n ≡ w) → (p ≡ true → w ≡ t)
    → n ≤ (if not z then n else (if not p then w else if not q then t else if not s then x else r))
rw_by p q false s r x t w n some none still = omega arith
rw_by false q true s r x t w n some none still = let same : n ≡ w = none refl in omega arith
rw_by true false true s r x t w n some none still = let same : n ≡ w = none refl in let back : w ≡ t = still refl in omega arith
rw_by true true true s r x t w n some none still = cc

either : (p q : Bool) → not (p && q) ≡ true → (p ≡ false) ⊎ ((p ≡ true) × (q ≡ false))
either true true e = cc
either true false e = inr (refl, refl)
either false q e = inl refl

no_bytes : (b : Bool) → not b ≡ true → b ≡ false
no_bytes true e = cc
no_bytes false e = refl

pub segments : (sizes : List (List Cut)) (o : Orders) (fs : FrameSizes) (b : Bounds) → AllFit sizes o → AreBounds sizes o fs b → AreRising b → HaveSegments b
unfolding headers_of has_rx has_rw has_tls has_tls_bits has_frames
segments sizes o fs b fit is rises =
    let tls = tls_rows o in
    let align : b.tls_align ≡ tls_align_of o = is.tls_align in
    let some : 1 ≤ b.tls_align = omega (arith, align, tls.0) in
    let extra : b.tls_align ≤ ALIGN_MAX = omega (arith, align, tls_most sizes o fit) in
    let c : Cursor = tls_cursor sizes o b.rw_start b.tls_align in
    let moves = class_moves sizes o fs b fit is in
    let bits_most : All (λ row. row.align ≤ b.tls_align) (rows_in o TlsBits) = λ k d lt. omega (arith, align, tls.1.0 k d lt) in
    let nobits_most : All (λ row. row.align ≤ b.tls_align) (rows_in o TlsNobits) = λ k d lt. omega (arith, align, tls.1.1 k d lt) in
    let in_bits : is_empty (rows_in o TlsBits) ≡ false → up b.rw_start b.tls_align ≤ b.tls_bits_end =
    λ full. omega (arith, reached sizes c (rows_in o TlsBits) extra some (fit TlsBits) bits_most full, is.tls_bits_end) in
    let in_nobits : is_empty (rows_in o TlsBits) ≡ true → is_empty (rows_in o TlsNobits) ≡ false → up b.rw_start b.tls_align ≤ b.tls_end =
    λ none full.
    let same : after_tls_bits sizes o b.rw_start b.tls_align ≡ c = still sizes c (rows_in o TlsBits) none in
    let end : b.tls_end ≡ (end_along sizes c (runs (rows_in o TlsNobits))).at = is.tls_end ∙ ap (λ x. (end_along sizes x (runs (rows_in o TlsNobits))).at) same in
    omega (arith, reached sizes c (rows_in o TlsNobits) extra some (fit TlsNobits) nobits_most full, end) in
    let start : b.has_tls ≡ true → b.tls_start ≡ up b.rw_start b.tls_align =
    λ has. is.tls_start ∙ ap (λ t. if t then up b.rw_start b.tls_align else 0) (sym is.tls_is ∙ has) in
    let any : b.has_tls ≡ true → (is_empty (rows_in o TlsBits) ≡ false) ⊎ ((is_empty (rows_in o TlsBits) ≡ true) × (is_empty (rows_in o TlsNobits) ≡ false)) =
    λ has. either (is_empty (rows_in o TlsBits)) (is_empty (rows_in o TlsNobits)) (sym is.tls_is ∙ has) in
    let reaches : b.has_tls ≡ true → up b.rw_start b.tls_align ≤ b.tls_end =
    λ has. elim (any has) [
      | inl full ↦ omega (arith, in_bits full, rises.tls_nobits)
      | inr other ↦ in_nobits other.0 other.1
    ] in
    let bits_full : b.has_tls_bits ≡ true → is_empty (rows_in o TlsBits) ≡ false = λ has. no_bytes (is_empty (rows_in o TlsBits)) (sym is.tls_bits_is ∙ has) in
    let tls_too : b.has_tls_bits ≡ true → b.has_tls ≡ true =
    λ has. is.tls_is ∙ ap (λ p. not (p && is_empty (rows_in o TlsNobits))) (bits_full has) in
    record {
      headers = is.headers
          ∙ headers_same b.has_rx b.has_rw b.has_tls b.has_frames (has_rx o) (has_rw o) (has_tls o) (has_frames fs) is.rx_is is.rw_is is.tls_is (has_them sizes o fs b is).has;
      headers_end = is.headers_end;
      rx = λ has. rw is.file_end (rx_by (is_empty (rows_in o RwBits)) (is_empty (rows_in o TlsBits)) (is_empty (rows_in o Rx)) b.r_end b.rx_end b.tls_bits_end b.bits_end (sym is.rx_is ∙ has)
          (omega (arith, rises.rw_rounded, rises.tls_bits)) rises.bits);
      tls_bits = λ has. (
        omega (arith, start (tls_too has), in_bits (bits_full has)),
        rw is.file_end (tls_by (is_empty (rows_in o RwBits)) (is_empty (rows_in o TlsBits)) (is_empty (rows_in o Rx)) b.r_end b.rx_end b.tls_bits_end b.bits_end (sym is.tls_bits_is ∙ has) rises.bits),
      );
      tls = λ has. (
        omega (arith, start has, up_least b.rw_start b.tls_align some),
        (
          omega (arith, start has, reaches has),
          subst (λ n. n % b.tls_align ≡ 0) (sym (start has)) (up_multiple b.rw_start b.tls_align),
        ),
      );
      bits = λ more. rw is.file_end (bits_by (is_empty (rows_in o RwBits)) (is_empty (rows_in o TlsBits)) (is_empty (rows_in o Rx)) b.r_end b.rx_end b.tls_bits_end b.bits_end
          (λ none. is.bits_end ∙ ap (λ (x : Cursor). x.at) (still sizes (cursor_at b.tls_bits_end) (rows_in o RwBits) none)) more);
      rw = λ has. rw (is.image_end, is.file_end)
          (rw_by (is_empty (rows_in o RwBits)) (is_empty (rows_in o TlsBits)) (is_empty (rows_in o RwNobits)) (is_empty (rows_in o Rx)) b.r_end b.rx_end b.tls_bits_end b.bits_end b.nobits_end (sym is.rw_is ∙ has)
          (λ none. is.nobits_end ∙ ap (λ (x : Cursor). x.at) (still sizes (cursor_at b.bits_end) (rows_in o RwNobits) none))
          (λ none. is.bits_end ∙ ap (λ (x : Cursor). x.at) (still sizes (cursor_at b.tls_bits_end) (rows_in o RwBits) none)));
    }
  where
    headers_same : (a c d p e f g q : Bool) → a ≡ e → c ≡ f → d ≡ g → p ≡ q
        → 2 + count_of e + count_of f + count_of g + count_of q ≡ 2 + count_of a + count_of c + count_of d + count_of p
    headers_same a c d p e f g q x y z w = rw (x, y, z, w) refl
