-- The members with bytes stand one after the other within the file.
use Rattle.std.proofs.Common.{◌≡◌, ℕ, zero, suc, ◌+◌, ◌<◌, ◌≤◌, ◌==◌, ◌&&◌, not, Bool, true, false, if◌then◌else◌, List, [], ◌∷◌, ◌++◌, get_or, length, refl, All, append-nil, arith, inl, inr}
use Rattle.std.specs.List.{list_all}
use Rattle.std.proofs.lemmas.Bool.Decides.{nat_tests}
use Rattle.std.proofs.lemmas.List.Elements.{All-nil, All-head, All-tail, All-cons, All-append}
use Rattle.lk_base.specs.declared.abi.TheConstants.{ALIGN_MAX}
use Rattle.link_sections.specs.declared.layouts.Bounds.{Bounds}
use Rattle.link_sections.specs.declared.members.Member.{Member}
use Rattle.link_sections.specs.Cuts.{Cut}
use Rattle.lk_tables.specs.declared.classes.Class.TheVariants.{R, Rx, TlsBits, RwBits}
use Rattle.output_sections.specs.declared.rows.Row.{Row}
use Rattle.layout.specs.declared.walk.Cursor.{Cursor}
use Rattle.layout.specs.Layout.{FrameSizes, last_end, tls_cursor}
use Rattle.output_sections.specs.Order.{Orders, rows_in}
use Rattle.layout.specs.Spots.{AreInOrder, AreRising}
use Rattle.layout.specs.Walk.{after, cursor_at, end_along, is_empty, members_along, members_in, runs}
use Rattle.layout.proofs.Chain.{AreBounds}
use Rattle.layout.proofs.Cursors.{RowFits}
use Rattle.layout.proofs.FrameSpots.{r_between, spots}
use Rattle.layout.proofs.Members.{Within, both_along, order_along}
use Rattle.layout.proofs.Rising.{AllFit, tls_most}
use Rattle.layout.proofs.Runs.{EachRun, each_run}
use Rattle.layout.proofs.Trails.{all_members}

-- a class with no byte has no member that counts
empty_first : (row : Row) (rows : List Row) → is_empty (row ∷ rows) ≡ true → (row.size ≡ 0) × (is_empty rows ≡ true)
unfolding is_empty
empty_first row rows e = by (row.size == 0) (list_all (λ row. row.size == 0) rows) refl e
  where
    by : (a b : Bool) → (row.size == 0) ≡ a → (a && b) ≡ true → (row.size ≡ 0) × (b ≡ true)
    by true b is e = (grind (arith, nat_tests), e)
    by false b is e = cc

pub none_each : (rows : List Row) → is_empty rows ≡ true → All (λ row. row.size ≡ 0) rows
none_each [] e = All-nil (λ row. row.size ≡ 0)
none_each (row ∷ rows) e =
    let both = empty_first row rows e in
    All-cons (λ row. row.size ≡ 0) row rows both.0 (none_each rows both.1)

pub each_none : (o : List Row) → All (λ row. row.size ≡ 0) o → is_empty o ≡ true
unfolding is_empty
each_none [] all = refl
each_none (row ∷ rows) all =
    let here : row.size ≡ 0 = All-head (λ row. row.size ≡ 0) row rows all in
    rw here (each_none rows (All-tail (λ row. row.size ≡ 0) row rows all))

none_in : (sizes : List (List Cut)) (c : Cursor) (o : List Row) → is_empty o ≡ true → members_in sizes c o ≡ []
unfolding members_in
none_in sizes c o e = rw e refl

none_along : (sizes : List (List Cut)) (c : Cursor) (os : List (List Row)) → EachRun (λ row. row.size ≡ 0) os → members_along sizes c os ≡ []
none_along sizes c [] all = refl
none_along sizes c (o ∷ os) all = rw (none_in sizes c o (each_none o all.0)) (none_along sizes (after sizes c o) os all.1)

pub none_class : (sizes : List (List Cut)) (c : Cursor) (rows : List Row) → is_empty rows ≡ true → members_along sizes c (runs rows) ≡ []
none_class sizes c rows e = none_along sizes c (runs rows) (each_run (λ row. row.size ≡ 0) rows (none_each rows e))

-- so a class with a member ends within the file
in_class : (b : Bool) (sizes : List (List Cut)) (first limit : ℕ) (c : Cursor) (rows : List Row) → is_empty rows ≡ b → c.extra ≤ ALIGN_MAX → first ≤ c.at
    → (is_empty rows ≡ false → (end_along sizes c (runs rows)).at ≤ limit) → All (RowFits sizes) rows → All (Within first limit) (members_along sizes c (runs rows))
in_class true sizes first limit c rows e extra le end fit = rw (none_class sizes c rows e) (All-nil (Within first limit))
in_class false sizes first limit c rows e extra le end fit = (both_along sizes first limit c (runs rows) extra le (end e) (each_run (RowFits sizes) rows fit)).1

pub last_counts : (p q s : Bool) (r x t w : ℕ) → x ≤ t → t ≤ w
    → (s ≡ false → x ≤ (if not p then w else if not q then t else if not s then x else r))
    × ((q ≡ false → t ≤ (if not p then w else if not q then t else if not s then x else r))
    × (p ≡ false → w ≤ (if not p then w else if not q then t else if not s then x else r)))
last_counts false q s r x t w xt tw = ((λ e. omega arith), ((λ e. omega arith), (λ e. omega arith)))
last_counts true false s r x t w xt tw = ((λ e. omega arith), ((λ e. omega arith), (λ e. cc)))
last_counts true true false r x t w xt tw = ((λ e. omega arith), ((λ e. cc), (λ e. cc)))
last_counts true true true r x t w xt tw = ((λ e. cc), ((λ e. cc), (λ e. cc)))

pub members_inside : (sizes : List (List Cut)) (o : Orders) (fs : FrameSizes) (b : Bounds) → AllFit sizes o → AreBounds sizes o fs b → AreRising b
    → All (Within b.headers_end b.file_end) (all_members sizes o b)
members_inside sizes o fs b fit is up =
    let P : Member → Type 0 = Within b.headers_end b.file_end in
    let file : b.file_end ≡ last_end o b.r_end b.rx_end b.tls_bits_end b.bits_end = is.file_end in
    let counts = last_counts (is_empty (rows_in o RwBits)) (is_empty (rows_in o TlsBits)) (is_empty (rows_in o Rx)) b.r_end b.rx_end b.tls_bits_end b.bits_end
    (omega (arith, up.rw_rounded, up.tls_bits)) up.bits in
    let extra : b.tls_align ≤ ALIGN_MAX = omega (arith, is.tls_align, tls_most sizes o fit) in
    let rows = r_between sizes o fs b is in
    let r = in_class (is_empty (rows_in o R)) sizes b.headers_end b.file_end (cursor_at b.headers_end) (rows_in o R) refl (omega arith) (omega arith)
    (λ some. omega (arith, rows.0, up.file_least)) (fit R) in
    let x = in_class (is_empty (rows_in o Rx)) sizes b.headers_end b.file_end (cursor_at b.rx_start) (rows_in o Rx) refl (omega arith) (omega (arith, up.r, up.rx_rounded))
    (λ some. omega (arith, is.rx_end, file, counts.0 some)) (fit Rx) in
    let t = in_class (is_empty (rows_in o TlsBits)) sizes b.headers_end b.file_end (tls_cursor sizes o b.rw_start b.tls_align) (rows_in o TlsBits) refl extra
    (omega (arith, up.r, up.rx_rounded, up.rx, up.rw_rounded)) (λ some. omega (arith, is.tls_bits_end, file, counts.1.0 some)) (fit TlsBits) in
    let w = in_class (is_empty (rows_in o RwBits)) sizes b.headers_end b.file_end (cursor_at b.tls_bits_end) (rows_in o RwBits) refl (omega arith)
    (omega (arith, up.r, up.rx_rounded, up.rx, up.rw_rounded, up.tls_bits)) (λ some. omega (arith, is.bits_end, file, counts.1.1 some)) (fit RwBits) in
    All-append P _ _ r (All-append P _ _ x (All-append P _ _ t w))

pub members_order : (sizes : List (List Cut)) (o : Orders) (fs : FrameSizes) (b : Bounds) → AllFit sizes o → AreBounds sizes o fs b → AreRising b → AreInOrder b.headers_end (all_members sizes o b)
members_order sizes o fs b fit is up =
    let w : List Member = members_along sizes (cursor_at b.tls_bits_end) (runs (rows_in o RwBits)) in
    let rows = r_between sizes o fs b is in
    let chain : AreInOrder b.headers_end (members_along sizes (cursor_at b.headers_end) (runs (rows_in o R))
    ++ (members_along sizes (cursor_at b.rx_start) (runs (rows_in o Rx))
    ++ (members_along sizes (tls_cursor sizes o b.rw_start b.tls_align) (runs (rows_in o TlsBits))
    ++ (w ++ [])))) =
    order_along sizes b.headers_end (cursor_at b.headers_end) (runs (rows_in o R)) _ (omega arith) (each_run (RowFits sizes) (rows_in o R) (fit R))
    (λ f r. order_along sizes f (cursor_at b.rx_start) (runs (rows_in o Rx)) _ (omega (arith, r, rows.0, up.rx_rounded)) (each_run (RowFits sizes) (rows_in o Rx) (fit Rx))
    (λ f' x. order_along sizes f' (tls_cursor sizes o b.rw_start b.tls_align) (runs (rows_in o TlsBits)) _ (omega (arith, x, is.rx_end, up.rw_rounded)) (each_run (RowFits sizes) (rows_in o TlsBits) (fit TlsBits))
    (λ f'' t. order_along sizes f'' (cursor_at b.tls_bits_end) (runs (rows_in o RwBits)) [] (omega (arith, t, is.tls_bits_end)) (each_run (RowFits sizes) (rows_in o RwBits) (fit RwBits))
    (λ _ _. tt)))) in
    rw (append-nil w) at chain

-- no member stands among the unwind records: those of R end before them, and all others start after them; without an FDE all do
abbrev pub IsBeside : Bounds → Member → Type 0
IsBeside b m = b.frame_header < m.start + m.size → b.frames_end ≤ m.start

beside_later : (from to : ℕ) (b : Bounds) (ms : List Member) → b.frames_end ≤ from → All (Within from to) ms → All (IsBeside b) ms
beside_later from to b ms le all = λ k d lt reaches. omega (arith, le, (all k d lt).first)

beside_before : (from to : ℕ) (b : Bounds) (ms : List Member) → to ≤ b.frame_header → All (Within from to) ms → All (IsBeside b) ms
beside_before from to b ms le all = λ k d lt reaches. absurd (omega (arith, le, (all k d lt).last, reaches))

pub members_beside : (sizes : List (List Cut)) (o : Orders) (fs : FrameSizes) (b : Bounds) → AllFit sizes o → AreBounds sizes o fs b → AreRising b → All (IsBeside b) (all_members sizes o b)
members_beside sizes o fs b fit is up =
    elim (spots sizes o fs b is) [
      | inl last ↦ by (end_along sizes (cursor_at b.headers_end) (runs (rows_in o R))).at (omega arith)
          (λ within. beside_before b.headers_end (end_along sizes (cursor_at b.headers_end) (runs (rows_in o R))).at b _ last.first within)
          (omega (arith, last.end, up.rx_rounded))
      | inr none ↦ by b.r_end (r_between sizes o fs b is).0
          (λ within. beside_later b.headers_end b.r_end b _ (omega (arith, none.frames_end, up.first)) within)
          (omega (arith, none.frames_end, up.first, up.r, up.rx_rounded))
    ]
  where
    by : (to : ℕ) → (end_along sizes (cursor_at b.headers_end) (runs (rows_in o R))).at ≤ to → (All (Within b.headers_end to) (members_along sizes (cursor_at b.headers_end) (runs (rows_in o R))) → All (IsBeside b) (members_along sizes (cursor_at b.headers_end) (runs (rows_in o R)))) → b.frames_end ≤ b.rx_start
        → All (IsBeside b) (all_members sizes o b)
    by to end first le =
        let extra : b.tls_align ≤ ALIGN_MAX = omega (arith, is.tls_align, tls_most sizes o fit) in
        let own = (both_along sizes b.headers_end to (cursor_at b.headers_end) (runs (rows_in o R)) (omega arith) (omega arith) end (each_run (RowFits sizes) (rows_in o R) (fit R))).1 in
        let x = (both_along sizes b.rx_start b.rx_end (cursor_at b.rx_start) (runs (rows_in o Rx)) (omega arith) (omega arith) (omega (arith, is.rx_end))
        (each_run (RowFits sizes) (rows_in o Rx) (fit Rx))).1 in
        let t = (both_along sizes b.rw_start b.tls_bits_end (tls_cursor sizes o b.rw_start b.tls_align) (runs (rows_in o TlsBits)) extra (omega arith) (omega (arith, is.tls_bits_end))
        (each_run (RowFits sizes) (rows_in o TlsBits) (fit TlsBits))).1 in
        let w = (both_along sizes b.tls_bits_end b.bits_end (cursor_at b.tls_bits_end) (runs (rows_in o RwBits)) (omega arith) (omega arith) (omega (arith, is.bits_end))
        (each_run (RowFits sizes) (rows_in o RwBits) (fit RwBits))).1 in
        All-append (IsBeside b) _ _ (first own)
        (All-append (IsBeside b) _ _ (beside_later b.rx_start b.rx_end b _ le x)
        (All-append (IsBeside b) _ _ (beside_later b.rw_start b.tls_bits_end b _ (omega (arith, le, up.rx, up.rw_rounded)) t)
        (beside_later b.tls_bits_end b.bits_end b _ (omega (arith, le, up.rx, up.rw_rounded, up.tls_bits)) w)))

pub order_at : (from : ℕ) (ms : List Member) → AreInOrder from ms → (i : ℕ) (d : Member) → i + 1 < length ms
    → (get_or ms i d).start + (get_or ms i d).size ≤ (get_or ms (i + 1) d).start
order_at from [] order i d lt = absurd (omega (arith, lt))
order_at from (m ∷ []) order i d lt = absurd (omega (arith, lt))
order_at from (m ∷ n ∷ ms) order zero d lt = order.1.0
order_at from (m ∷ n ∷ ms) order (suc i) d lt =
    let next : suc i + 1 ≡ suc (i + 1) = omega arith in
    rw next (order_at (m.start + m.size) (n ∷ ms) order.1 i d (omega (arith, lt)))
