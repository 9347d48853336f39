-- The whole walk: where all members stand, and those of output sections that are not empty.
use Rattle.std.proofs.Common.{◌≡◌, ℕ, zero, suc, ◌+◌, ◌-◌, ◌^◌, ◌<◌, ◌≤◌, Bool, true, false, if◌then◌else◌, List, [], ◌∷◌, ◌++◌, set, replicate, ap, sym, ◌∙◌, All, append_assoc, refl, arith, inl, inr, codes}
use Rattle.std.proofs.lemmas.List.Elements.{All-nil, All-head, All-tail, All-cons, All-append}
use Rattle.lk_base.specs.declared.abi.TheConstants.{ALIGN_MAX}
use Rattle.lk_tables.specs.declared.classes.Class.{Class}
use Rattle.lk_tables.specs.declared.classes.Class.TheVariants.{R, Rx, TlsBits, TlsNobits, RwBits, RwNobits}
use Rattle.link_sections.specs.declared.layouts.Bounds.{Bounds}
use Rattle.link_sections.specs.declared.members.Content.{Content}
use Rattle.link_sections.specs.declared.members.Content.TheVariants.{Section, Pool as IsPool, Got}
use Rattle.link_sections.specs.declared.members.Member.{Member}
use Rattle.link_sections.specs.Cuts.{Cut}
use Rattle.link_sections.specs.LaidOut.{OutputPlace}
use Rattle.output_sections.specs.declared.rows.Row.{Row}
use Rattle.layout.specs.declared.frames.FrameBounds.{FrameBounds}
use Rattle.layout.specs.declared.walk.Cursor.{Cursor}
use Rattle.output_sections.specs.Items.{Item}
use Rattle.layout.specs.Layout.{FrameSizes, Trail, after_tls_bits, frame_place, frame_places, frames_in, no_trail, tls_cursor, trail_of, with_bits, with_frames, with_nobits}
use Rattle.output_sections.specs.Order.{Orders, rows_in}
use Rattle.layout.specs.Spots.{AreRising}
use Rattle.layout.specs.Walk.{Stands, after, all_put, cursor_at, end_along, members_along, place_in, place_of, places_along, put, runs, stands_along, start_of}
use Rattle.layout.proofs.Chain.{AreBounds, AreFrames}
use Rattle.layout.proofs.Cursors.{Moves, RowFits, after_moves, least_along, start_most}
use Rattle.layout.proofs.FrameSpots.{r_between, spots}
use Rattle.layout.proofs.Members.{Near, both_along}
use Rattle.layout.proofs.Rising.{AllFit, class_moves, tls_most}
use Rattle.layout.proofs.Runs.{EachRun, each_run}
use Rattle.layout.proofs.Splitting.{put_append}

-- all members, class by class
abbrev pub all_stands : List (List Cut) → Orders → Bounds → List Member
all_stands sizes o b = stands_along sizes (cursor_at b.headers_end) (runs (rows_in o R))
    ++ (stands_along sizes (cursor_at b.rx_start) (runs (rows_in o Rx))
    ++ (stands_along sizes (tls_cursor sizes o b.rw_start b.tls_align) (runs (rows_in o TlsBits))
    ++ (stands_along sizes (after_tls_bits sizes o b.rw_start b.tls_align) (runs (rows_in o TlsNobits))
    ++ (stands_along sizes (cursor_at b.tls_bits_end) (runs (rows_in o RwBits))
    ++ stands_along sizes (cursor_at b.bits_end) (runs (rows_in o RwNobits))))))

-- those with bytes in the file, of output sections that are not empty
abbrev pub all_members : List (List Cut) → Orders → Bounds → List Member
all_members sizes o b = members_along sizes (cursor_at b.headers_end) (runs (rows_in o R))
    ++ (members_along sizes (cursor_at b.rx_start) (runs (rows_in o Rx))
    ++ (members_along sizes (tls_cursor sizes o b.rw_start b.tls_align) (runs (rows_in o TlsBits))
    ++ members_along sizes (cursor_at b.tls_bits_end) (runs (rows_in o RwBits))))

pub trail_stands : (sizes : List (List Cut)) (parts : List Item) (o : Orders) (b : Bounds) (t : Trail)
    → (trail_of sizes parts o b t).stands ≡ all_put (all_stands sizes o b) t.stands
unfolding trail_of with_bits with_frames with_nobits
trail_stands sizes parts o b t =
    let r = stands_along sizes (cursor_at b.headers_end) (runs (rows_in o R)) in
    let x = stands_along sizes (cursor_at b.rx_start) (runs (rows_in o Rx)) in
    let tb = stands_along sizes (tls_cursor sizes o b.rw_start b.tls_align) (runs (rows_in o TlsBits)) in
    let tn = stands_along sizes (after_tls_bits sizes o b.rw_start b.tls_align) (runs (rows_in o TlsNobits)) in
    let wb = stands_along sizes (cursor_at b.tls_bits_end) (runs (rows_in o RwBits)) in
    let wn = stands_along sizes (cursor_at b.bits_end) (runs (rows_in o RwNobits)) in
    sym (put_append r (x ++ (tb ++ (tn ++ (wb ++ wn)))) t.stands ∙ put_append x (tb ++ (tn ++ (wb ++ wn))) (all_put r t.stands)
    ∙ put_append tb (tn ++ (wb ++ wn)) (all_put x (all_put r t.stands)) ∙ put_append tn (wb ++ wn) (all_put tb (all_put x (all_put r t.stands)))
    ∙ put_append wb wn (all_put tn (all_put tb (all_put x (all_put r t.stands)))))

-- the unwind records of these bounds
frames_same : (f : FrameBounds) (b : Bounds) (t : Trail) → AreFrames f b → with_frames f t ≡ with_frames (frames_in b) t
unfolding with_frames
frames_same f b t are = rw (are.has, are.header, are.header_end, are.frames, are.frames_end) refl

-- the walk, step by step
pub trail_is : (sizes : List (List Cut)) (parts : List Item) (o : Orders) (b : Bounds) (f : FrameBounds) (t0 t1 t2 t3 t4 t5 t6 t7 : Trail) → AreFrames f b
    → t1 ≡ with_bits sizes parts R (cursor_at b.headers_end) (rows_in o R) t0
    → t2 ≡ with_frames f t1
    → t3 ≡ with_bits sizes parts Rx (cursor_at b.rx_start) (rows_in o Rx) t2
    → t4 ≡ with_bits sizes parts TlsBits (tls_cursor sizes o b.rw_start b.tls_align) (rows_in o TlsBits) t3
    → t5 ≡ with_nobits sizes parts TlsNobits (after_tls_bits sizes o b.rw_start b.tls_align) (rows_in o TlsNobits) t4
    → t6 ≡ with_bits sizes parts RwBits (cursor_at b.tls_bits_end) (rows_in o RwBits) t5
    → t7 ≡ with_nobits sizes parts RwNobits (cursor_at b.bits_end) (rows_in o RwNobits) t6
    → t7 ≡ trail_of sizes parts o b t0
unfolding trail_of
trail_is sizes parts o b f t0 t1 t2 t3 t4 t5 t6 t7 are e1 e2 e3 e4 e5 e6 e7 =
    e7 ∙ ap (λ t. with_nobits sizes parts RwNobits (cursor_at b.bits_end) (rows_in o RwNobits) t)
    (e6 ∙ ap (λ t. with_bits sizes parts RwBits (cursor_at b.tls_bits_end) (rows_in o RwBits) t)
    (e5 ∙ ap (λ t. with_nobits sizes parts TlsNobits (after_tls_bits sizes o b.rw_start b.tls_align) (rows_in o TlsNobits) t)
    (e4 ∙ ap (λ t. with_bits sizes parts TlsBits (tls_cursor sizes o b.rw_start b.tls_align) (rows_in o TlsBits) t)
    (e3 ∙ ap (λ t. with_bits sizes parts Rx (cursor_at b.rx_start) (rows_in o Rx) t)
    (e2 ∙ frames_same f b t1 are ∙ ap (λ t. with_frames (frames_in b) t) e1)))))

pub trail_members : (sizes : List (List Cut)) (parts : List Item) (o : Orders) (b : Bounds) (sections pools : ℕ)
    → (trail_of sizes parts o b (no_trail sections pools)).members ≡ all_members sizes o b
unfolding trail_of with_bits with_frames with_nobits
trail_members sizes parts o b sections pools = simp append_assoc

-- and those without
pub trail_nobits : (sizes : List (List Cut)) (parts : List Item) (o : Orders) (b : Bounds) (sections pools : ℕ) → (trail_of sizes parts o b (no_trail sections pools)).nobits_members
    ≡ members_along sizes (after_tls_bits sizes o b.rw_start b.tls_align) (runs (rows_in o TlsNobits)) ++ members_along sizes (cursor_at b.bits_end) (runs (rows_in o RwNobits))
unfolding trail_of with_bits with_frames with_nobits
trail_nobits sizes parts o b sections pools = refl

-- where they stand: from the headers on, and not much after the end of the last class
pub stands_near : (sizes : List (List Cut)) (o : Orders) (fs : FrameSizes) (b : Bounds) → AllFit sizes o → AreBounds sizes o fs b → AreRising b
    → All (Near b.headers_end (2 ^ 63 - 2 ^ 31)) (all_stands sizes o b)
stands_near sizes o fs b fit is up =
    let m = class_moves sizes o fs b fit is in
    let extra : b.tls_align ≤ ALIGN_MAX = omega (arith, is.tls_align, tls_most sizes o fit) in
    let last : ℕ = 2 ^ 63 - 2 ^ 31 in
    let P : Member → Type 0 = Near b.headers_end last in
    let rows = r_between sizes o fs b is in
    let r : All P (stands_along sizes (cursor_at b.headers_end) (runs (rows_in o R))) =
    (both_along sizes b.headers_end last (cursor_at b.headers_end) (runs (rows_in o R)) (omega arith) (omega arith)
    (omega (arith, rows.0, up.rx_rounded, up.rx, up.rw_rounded, up.tls_bits, up.bits, up.nobits, up.room)) (each_run (RowFits sizes) (rows_in o R) (fit R))).0 in
    let x : All P (stands_along sizes (cursor_at b.rx_start) (runs (rows_in o Rx))) =
    (both_along sizes b.headers_end last (cursor_at b.rx_start) (runs (rows_in o Rx)) (omega arith) (omega (arith, up.r, up.rx_rounded))
    (omega (arith, is.rx_end, up.rw_rounded, up.tls_bits, up.bits, up.nobits, up.room)) (each_run (RowFits sizes) (rows_in o Rx) (fit Rx))).0 in
    let tb : All P (stands_along sizes (tls_cursor sizes o b.rw_start b.tls_align) (runs (rows_in o TlsBits))) =
    (both_along sizes b.headers_end last (tls_cursor sizes o b.rw_start b.tls_align) (runs (rows_in o TlsBits)) extra (omega (arith, up.r, up.rx_rounded, up.rx, up.rw_rounded))
    (omega (arith, is.tls_bits_end, up.bits, up.nobits, up.room)) (each_run (RowFits sizes) (rows_in o TlsBits) (fit TlsBits))).0 in
    let tn : All P (stands_along sizes (after_tls_bits sizes o b.rw_start b.tls_align) (runs (rows_in o TlsNobits))) =
    (both_along sizes b.headers_end last (after_tls_bits sizes o b.rw_start b.tls_align) (runs (rows_in o TlsNobits)) m.tls_bits.extra
    (omega (arith, is.tls_bits_end, up.r, up.rx_rounded, up.rx, up.rw_rounded, up.tls_bits)) (omega (arith, is.tls_end, up.tls_room))
    (each_run (RowFits sizes) (rows_in o TlsNobits) (fit TlsNobits))).0 in
    let wb : All P (stands_along sizes (cursor_at b.tls_bits_end) (runs (rows_in o RwBits))) =
    (both_along sizes b.headers_end last (cursor_at b.tls_bits_end) (runs (rows_in o RwBits)) (omega arith) (omega (arith, up.r, up.rx_rounded, up.rx, up.rw_rounded, up.tls_bits))
    (omega (arith, is.bits_end, up.nobits, up.room)) (each_run (RowFits sizes) (rows_in o RwBits) (fit RwBits))).0 in
    let wn : All P (stands_along sizes (cursor_at b.bits_end) (runs (rows_in o RwNobits))) =
    (both_along sizes b.headers_end last (cursor_at b.bits_end) (runs (rows_in o RwNobits)) (omega arith)
    (omega (arith, up.r, up.rx_rounded, up.rx, up.rw_rounded, up.tls_bits, up.bits)) (omega (arith, is.nobits_end, up.room))
    (each_run (RowFits sizes) (rows_in o RwNobits) (fit RwNobits))).0 in
    All-append P _ _ r (All-append P _ _ x (All-append P _ _ tb (All-append P _ _ tn (All-append P _ _ wb wn))))

-- where output sections are, class by class
abbrev pub all_places : List (List Cut) → List Item → Orders → Bounds → List OutputPlace
all_places sizes parts o b = places_along sizes parts R (cursor_at b.headers_end) (runs (rows_in o R))
    ++ (frame_places (frames_in b)
    ++ (places_along sizes parts Rx (cursor_at b.rx_start) (runs (rows_in o Rx))
    ++ (places_along sizes parts TlsBits (tls_cursor sizes o b.rw_start b.tls_align) (runs (rows_in o TlsBits))
    ++ (places_along sizes parts TlsNobits (after_tls_bits sizes o b.rw_start b.tls_align) (runs (rows_in o TlsNobits))
    ++ (places_along sizes parts RwBits (cursor_at b.tls_bits_end) (runs (rows_in o RwBits))
    ++ places_along sizes parts RwNobits (cursor_at b.bits_end) (runs (rows_in o RwNobits)))))))

pub trail_places : (sizes : List (List Cut)) (parts : List Item) (o : Orders) (b : Bounds) (sections pools : ℕ)
    → (trail_of sizes parts o b (no_trail sections pools)).places ≡ all_places sizes parts o b
unfolding trail_of with_bits with_frames with_nobits
trail_places sizes parts o b sections pools = simp append_assoc

-- each starts not much after the end of the last class
abbrev pub IsLow : OutputPlace → Type 0
IsLow p = p.start < 2 ^ 63

low_along : (sizes : List (List Cut)) (parts : List Item) (class : Class) (c : Cursor) (os : List (List Row)) → c.extra ≤ ALIGN_MAX
    → (end_along sizes c os).at ≤ 2 ^ 63 - 2 ^ 31 → EachRun (RowFits sizes) os → All IsLow (places_along sizes parts class c os)
unfolding place_in place_of
low_along sizes parts class c [] extra end all = All-nil IsLow
low_along sizes parts class c (o ∷ os) extra end all =
    let moves : Moves c (after sizes c o) _ = after_moves sizes c o extra all.0 in
    let later : (after sizes c o).at ≤ (end_along sizes (after sizes c o) os).at = least_along sizes (after sizes c o) os moves.extra all.1 in
    let near : start_of c o < c.at + ALIGN_MAX = start_most sizes c o extra all.0 in
    All-cons IsLow (place_in sizes parts class c o) (places_along sizes parts class (after sizes c o) os) (omega (arith, near, moves.least, later, end))
    (low_along sizes parts class (after sizes c o) os moves.extra end all.1)

-- the unwind records do, as the members of R
low_by : (t : Bool) (header frame : OutputPlace) → (t ≡ true → IsLow header × IsLow frame) → All IsLow (if t then header ∷ frame ∷ [] else [])
low_by true header frame there = All-cons IsLow header (frame ∷ []) (there refl).0 (All-cons IsLow frame [] (there refl).1 (All-nil IsLow))
low_by false header frame there = All-nil IsLow

frames_low : (sizes : List (List Cut)) (o : Orders) (fs : FrameSizes) (b : Bounds) → AreBounds sizes o fs b → AreRising b → All IsLow (frame_places (frames_in b))
frames_low sizes o fs b is up =
    low_by b.has_frames (frame_place (codes ".eh_frame_hdr") b.frame_header b.frame_header_end) (frame_place (codes ".eh_frame") b.frames b.frames_end)
    (λ has. elim (spots sizes o fs b is) [
      | inl last ↦ (
        omega (arith, last.header, last.between, last.frames, last.end, up.rx_rounded, up.rx, up.rw_rounded, up.tls_bits, up.bits, up.nobits, up.room),
        omega (arith, last.frames, last.end, up.rx_rounded, up.rx, up.rw_rounded, up.tls_bits, up.bits, up.nobits, up.room),
      )
      | inr none ↦ let wrong : false ≡ true = sym none.has ∙ has in cc
    ])

pub places_low : (sizes : List (List Cut)) (parts : List Item) (o : Orders) (fs : FrameSizes) (b : Bounds) → AllFit sizes o → AreBounds sizes o fs b → AreRising b
    → All IsLow (all_places sizes parts o b)
places_low sizes parts o fs b fit is up =
    let m = class_moves sizes o fs b fit is in
    let extra : b.tls_align ≤ ALIGN_MAX = omega (arith, is.tls_align, tls_most sizes o fit) in
    let rows = r_between sizes o fs b is in
    let r : All IsLow (places_along sizes parts R (cursor_at b.headers_end) (runs (rows_in o R))) =
    low_along sizes parts R (cursor_at b.headers_end) (runs (rows_in o R)) (omega arith)
    (omega (arith, rows.0, up.rx_rounded, up.rx, up.rw_rounded, up.tls_bits, up.bits, up.nobits, up.room)) (each_run (RowFits sizes) (rows_in o R) (fit R)) in
    let x : All IsLow (places_along sizes parts Rx (cursor_at b.rx_start) (runs (rows_in o Rx))) =
    low_along sizes parts Rx (cursor_at b.rx_start) (runs (rows_in o Rx)) (omega arith)
    (omega (arith, is.rx_end, up.rw_rounded, up.tls_bits, up.bits, up.nobits, up.room)) (each_run (RowFits sizes) (rows_in o Rx) (fit Rx)) in
    let tb : All IsLow (places_along sizes parts TlsBits (tls_cursor sizes o b.rw_start b.tls_align) (runs (rows_in o TlsBits))) =
    low_along sizes parts TlsBits (tls_cursor sizes o b.rw_start b.tls_align) (runs (rows_in o TlsBits)) extra
    (omega (arith, is.tls_bits_end, up.bits, up.nobits, up.room)) (each_run (RowFits sizes) (rows_in o TlsBits) (fit TlsBits)) in
    let tn : All IsLow (places_along sizes parts TlsNobits (after_tls_bits sizes o b.rw_start b.tls_align) (runs (rows_in o TlsNobits))) =
    low_along sizes parts TlsNobits (after_tls_bits sizes o b.rw_start b.tls_align) (runs (rows_in o TlsNobits)) m.tls_bits.extra
    (omega (arith, is.tls_end, up.tls_room)) (each_run (RowFits sizes) (rows_in o TlsNobits) (fit TlsNobits)) in
    let wb : All IsLow (places_along sizes parts RwBits (cursor_at b.tls_bits_end) (runs (rows_in o RwBits))) =
    low_along sizes parts RwBits (cursor_at b.tls_bits_end) (runs (rows_in o RwBits)) (omega arith)
    (omega (arith, is.bits_end, up.nobits, up.room)) (each_run (RowFits sizes) (rows_in o RwBits) (fit RwBits)) in
    let wn : All IsLow (places_along sizes parts RwNobits (cursor_at b.bits_end) (runs (rows_in o RwNobits))) =
    low_along sizes parts RwNobits (cursor_at b.bits_end) (runs (rows_in o RwNobits)) (omega arith)
    (omega (arith, is.nobits_end, up.room)) (each_run (RowFits sizes) (rows_in o RwNobits) (fit RwNobits)) in
    All-append IsLow _ _ r (All-append IsLow _ _ (frames_low sizes o fs b is up) (All-append IsLow _ _ x (All-append IsLow _ _ tb (All-append IsLow _ _ tn (All-append IsLow _ _ wb wn)))))

-- what holds of 0 and of each start holds of each address that is put
pub record AllStand (P : ℕ → Type 0) (s : Stands) : Type 0 where
  pub starts : All P s.starts
  pub pools : All P s.pools
  pub got : P s.got

all_set : (P : ℕ → Type 0) (xs : List ℕ) (n x : ℕ) → P x → All P xs → All P (set xs n x)
all_set P [] n x one all = λ k d lt. absurd (omega (arith, lt))
all_set P (y ∷ ys) zero x one all = All-cons P x ys one (All-tail P y ys all)
all_set P (y ∷ ys) (suc n) x one all = All-cons P y (set ys n x) (All-head P y ys all) (all_set P ys n x one (All-tail P y ys all))

put_holds : (P : ℕ → Type 0) (content : Content) (start : ℕ) (s : Stands) → P start → AllStand P s → AllStand P (put content start s)
put_holds P (Section n) start s one all = record { starts = all_set P s.starts n start one all.starts; pools = all.pools; got = all.got }
put_holds P (IsPool p) start s one all = record { starts = all.starts; pools = all_set P s.pools p start one all.pools; got = all.got }
put_holds P Got start s one all = record { starts = all.starts; pools = all.pools; got = one }

pub all_hold : (P : ℕ → Type 0) (ms : List Member) (s : Stands) → All (λ m. P m.start) ms → AllStand P s → AllStand P (all_put ms s)
all_hold P [] s each all = all
all_hold P (m ∷ ms) s each all =
    all_hold P ms (put m.content m.start s) (All-tail (λ (x : Member). P x.start) m ms each)
    (put_holds P m.content m.start s (All-head (λ (x : Member). P x.start) m ms each) all)

pub all_nobits : (P : ℕ → Type 0) (n : ℕ) → P 0 → All P (replicate n 0)
all_nobits P zero one = All-nil P
all_nobits P (suc n) one = All-cons P 0 (replicate n 0) one (all_nobits P n one)

pub trail_low : (sizes : List (List Cut)) (parts : List Item) (o : Orders) (fs : FrameSizes) (b : Bounds) (sections pools : ℕ) → AllFit sizes o → AreBounds sizes o fs b → AreRising b
    → AllStand (λ start. start + 2 ^ 30 < 2 ^ 63) (trail_of sizes parts o b (no_trail sections pools)).stands
trail_low sizes parts o fs b sections pools fit is up =
    let near = stands_near sizes o fs b fit is up in
    let P : ℕ → Type 0 = λ start. start + 2 ^ 30 < 2 ^ 63 in
    let none : P 0 = omega arith in
    rw (trail_stands sizes parts o b (no_trail sections pools))
    (all_hold P (all_stands sizes o b) (no_trail sections pools).stands (λ k d lt. omega (arith, (near k d lt).low))
    (record { starts = all_nobits P sections none; pools = all_nobits P pools none; got = none }))
