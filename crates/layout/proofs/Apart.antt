-- The output sections of a layout stand one after the other, each within its class.
use Rattle.std.proofs.Common.{◌≡◌, ℕ, ◌+◌, ◌-◌, ◌≤◌, List, [], ◌∷◌, ◌++◌, Bool, true, false, not, if◌then◌else◌, refl, ap, sym, ◌∙◌, All, append_assoc, append-nil, arith, inl, inr, codes}
use Rattle.std.proofs.lemmas.List.Elements.{All-nil, All-cons, All-append}
use Rattle.lk_base.specs.declared.abi.TheConstants.{ALIGN_MAX}
use Rattle.lk_tables.specs.declared.classes.Class.{Class}
use Rattle.lk_tables.specs.declared.classes.Class.TheVariants.{R, Rx, TlsBits, TlsNobits, RwBits, RwNobits}
use Rattle.link_sections.specs.declared.layouts.Bounds.{Bounds}
use Rattle.link_sections.specs.Cuts.{Cut}
use Rattle.link_sections.specs.LaidOut.{OutputSection}
use Rattle.output_sections.specs.declared.rows.Row.{Row}
use Rattle.layout.specs.declared.frames.FrameBounds.{FrameBounds}
use Rattle.layout.specs.declared.walk.Cursor.{Cursor}
use Rattle.output_sections.specs.Items.{Item}
use Rattle.layout.specs.Layout.{FrameSizes, after_tls_bits, frame_section, frame_sections, frames_in, last_end, no_trail, tls_cursor, trail_of, with_bits, with_frames, with_nobits}
use Rattle.output_sections.specs.Order.{Orders, rows_in}
use Rattle.layout.specs.Spots.{AreApart, AreRising, IsWithinClass, bytes_end, class_end, class_start, is_tls_nobits, without_tls_nobits}
use Rattle.layout.specs.Walk.{after, cursor_at, end_along, is_empty, past, runs, section_in, section_of, sections_along, start_of}
use Rattle.layout.proofs.Chain.{AreBounds}
use Rattle.layout.proofs.Cursors.{Moves, RowFits, after_moves, least_along, past_least, start_least}
use Rattle.layout.proofs.FrameSpots.{r_between, rows_end, spots}
use Rattle.layout.proofs.Inside.{each_none, last_counts, none_each}
use Rattle.layout.proofs.Rising.{AllFit, class_moves, tls_most}
use Rattle.layout.proofs.Runs.{EachRun, each_run}

-- the output sections of each class, one class after the other
abbrev pub all_sections : List (List Cut) → List Item → Orders → Bounds → List OutputSection
all_sections sizes parts o b = sections_along sizes parts R (cursor_at b.headers_end) (runs (rows_in o R))
    ++ (frame_sections (frames_in b)
    ++ (sections_along sizes parts Rx (cursor_at b.rx_start) (runs (rows_in o Rx))
    ++ (sections_along sizes parts TlsBits (tls_cursor sizes o b.rw_start b.tls_align) (runs (rows_in o TlsBits))
    ++ (sections_along sizes parts TlsNobits (after_tls_bits sizes o b.rw_start b.tls_align) (runs (rows_in o TlsNobits))
    ++ (sections_along sizes parts RwBits (cursor_at b.tls_bits_end) (runs (rows_in o RwBits))
    ++ sections_along sizes parts RwNobits (cursor_at b.bits_end) (runs (rows_in o RwNobits)))))))

pub trail_outputs : (sizes : List (List Cut)) (parts : List Item) (o : Orders) (b : Bounds) (sections pools : ℕ)
    → (trail_of sizes parts o b (no_trail sections pools)).outputs ≡ all_sections sizes parts o b
unfolding trail_of with_bits with_frames with_nobits
trail_outputs sizes parts o b sections pools = simp append_assoc

-- one output section before those after it
step : (e : Bool) (sizes : List (List Cut)) (parts : List Item) (class : Class) (c : Cursor) (from : ℕ) (o : List Row) (later : List OutputSection)
    → is_empty o ≡ e → from ≤ c.at → All (RowFits sizes) o → ((f : ℕ) → f ≤ (if e then c else cursor_at (past sizes (start_of c o) o)).at → AreApart f later)
    → AreApart from ((if e then [] else section_of parts class o (start_of c o) (past sizes (start_of c o) o) ∷ []) ++ later)
unfolding section_of
step true sizes parts class c from o later e le fit k = k from le
step false sizes parts class c from o later e le fit k =
    let start : c.at ≤ start_of c o = start_least c o in
    let end : start_of c o ≤ past sizes (start_of c o) o = past_least sizes (start_of c o) o fit in
    (omega arith, k _ (omega arith))

step_in : (sizes : List (List Cut)) (parts : List Item) (class : Class) (c : Cursor) (from : ℕ) (o : List Row) (later : List OutputSection) → from ≤ c.at → All (RowFits sizes) o
    → ((f : ℕ) → f ≤ (after sizes c o).at → AreApart f later) → AreApart from (section_in sizes parts class c o ++ later)
unfolding section_in after
step_in sizes parts class c from o later le fit k = step (is_empty o) sizes parts class c from o later refl le fit k

along : (sizes : List (List Cut)) (parts : List Item) (class : Class) (c : Cursor) (from : ℕ) (os : List (List Row)) (later : List OutputSection) → from ≤ c.at
    → EachRun (RowFits sizes) os → ((f : ℕ) → f ≤ (end_along sizes c os).at → AreApart f later) → AreApart from (sections_along sizes parts class c os ++ later)
along sizes parts class c from [] later le fit k = k from le
along sizes parts class c from (o ∷ os) later le fit k =
    rw (append_assoc (section_in sizes parts class c o) (sections_along sizes parts class (after sizes c o) os) later)
    (step_in sizes parts class c from o _ le fit.0 (λ f follows. along sizes parts class (after sizes c o) f os later follows fit.1 k))

-- a class is kept whole, or left out
keep_by : (e : Bool) (parts : List Item) (class : Class) (o : List Row) (start end : ℕ) (later : List OutputSection) → is_tls_nobits class ≡ false
    → without_tls_nobits ((if e then [] else section_of parts class o start end ∷ []) ++ later) ≡ (if e then [] else section_of parts class o start end ∷ []) ++ without_tls_nobits later
unfolding section_of
keep_by true parts class o start end later stays = refl
keep_by false parts class o start end later stays = rw stays refl

drop_by : (e : Bool) (parts : List Item) (o : List Row) (start end : ℕ) (later : List OutputSection)
    → without_tls_nobits ((if e then [] else section_of parts TlsNobits o start end ∷ []) ++ later) ≡ without_tls_nobits later
unfolding section_of
drop_by true parts o start end later = refl
drop_by false parts o start end later = refl

keep_along : (sizes : List (List Cut)) (parts : List Item) (class : Class) (c : Cursor) (os : List (List Row)) (later : List OutputSection) → is_tls_nobits class ≡ false
    → without_tls_nobits (sections_along sizes parts class c os ++ later) ≡ sections_along sizes parts class c os ++ without_tls_nobits later
unfolding section_in
keep_along sizes parts class c [] later stays = refl
keep_along sizes parts class c (o ∷ os) later stays =
    let s : List OutputSection = if is_empty o then [] else section_of parts class o (start_of c o) (past sizes (start_of c o) o) ∷ [] in
    let rest : List OutputSection = sections_along sizes parts class (after sizes c o) os in
    ap without_tls_nobits (append_assoc s rest later)
    ∙ keep_by (is_empty o) parts class o (start_of c o) (past sizes (start_of c o) o) (rest ++ later) stays
    ∙ ap (λ l. s ++ l) (keep_along sizes parts class (after sizes c o) os later stays) ∙ sym (append_assoc s rest (without_tls_nobits later))

drop_along : (sizes : List (List Cut)) (parts : List Item) (c : Cursor) (os : List (List Row)) (later : List OutputSection)
    → without_tls_nobits (sections_along sizes parts TlsNobits c os ++ later) ≡ without_tls_nobits later
unfolding section_in
drop_along sizes parts c [] later = refl
drop_along sizes parts c (o ∷ os) later =
    let s : List OutputSection = if is_empty o then [] else section_of parts TlsNobits o (start_of c o) (past sizes (start_of c o) o) ∷ [] in
    let rest : List OutputSection = sections_along sizes parts TlsNobits (after sizes c o) os in
    ap without_tls_nobits (append_assoc s rest later)
    ∙ drop_by (is_empty o) parts o (start_of c o) (past sizes (start_of c o) o) (rest ++ later) ∙ drop_along sizes parts (after sizes c o) os later

-- the unwind records, by whether they are there
keep_by_frames : (t : Bool) (header frame : OutputSection) (later : List OutputSection) → is_tls_nobits header.class ≡ false → is_tls_nobits frame.class ≡ false
    → without_tls_nobits ((if t then header ∷ frame ∷ [] else []) ++ later) ≡ (if t then header ∷ frame ∷ [] else []) ++ without_tls_nobits later
keep_by_frames true header frame later first second = rw (first, second) refl
keep_by_frames false header frame later first second = refl

keep_frames : (f : FrameBounds) (later : List OutputSection) → without_tls_nobits (frame_sections f ++ later) ≡ frame_sections f ++ without_tls_nobits later
keep_frames f later =
    keep_by_frames f.has_frames (frame_section (codes ".eh_frame_hdr") f.header f.header_end 4) (frame_section (codes ".eh_frame") f.frames f.frames_end 8) later refl refl

apart_by : (t : Bool) (header frame : OutputSection) (from : ℕ) (later : List OutputSection)
    → (t ≡ true → (from ≤ header.address) × ((header.address + header.size ≤ frame.address) × AreApart (frame.address + frame.size) later))
    → (t ≡ false → AreApart from later) → AreApart from ((if t then header ∷ frame ∷ [] else []) ++ later)
apart_by true header frame from later there none = there refl
apart_by false header frame from later there none = none refl

frames_apart : (sizes : List (List Cut)) (o : Orders) (fs : FrameSizes) (b : Bounds) (from : ℕ) (later : List OutputSection) → AreBounds sizes o fs b → from ≤ rows_end sizes o b
    → ((g : ℕ) → g ≤ b.r_end → AreApart g later) → AreApart from (frame_sections (frames_in b) ++ later)
frames_apart sizes o fs b from later is le k =
    apart_by b.has_frames (frame_section (codes ".eh_frame_hdr") b.frame_header b.frame_header_end 4) (frame_section (codes ".eh_frame") b.frames b.frames_end 8) from later
    (λ has. elim (spots sizes o fs b is) [
      | inl last ↦
          let end : b.frames + (b.frames_end - b.frames) ≤ b.r_end = omega (arith, last.frames, last.end) in
          (omega (arith, le, last.first), (omega (arith, last.header, last.between), k (b.frames + (b.frames_end - b.frames)) end))
      | inr none ↦ let wrong : false ≡ true = sym none.has ∙ has in cc
    ])
    (λ has. k from (omega (arith, le, (r_between sizes o fs b is).0)))

within_by : (t : Bool) (b : Bounds) (header frame : OutputSection) → (t ≡ true → IsWithinClass b header × IsWithinClass b frame)
    → All (IsWithinClass b) (if t then header ∷ frame ∷ [] else [])
within_by true b header frame there =
    All-cons (IsWithinClass b) header (frame ∷ []) (there refl).0 (All-cons (IsWithinClass b) frame [] (there refl).1 (All-nil (IsWithinClass b)))
within_by false b header frame there = All-nil (IsWithinClass b)

frames_within : (sizes : List (List Cut)) (o : Orders) (fs : FrameSizes) (b : Bounds) → AreBounds sizes o fs b → AreRising b → b.headers_end ≤ rows_end sizes o b
    → All (IsWithinClass b) (frame_sections (frames_in b))
frames_within sizes o fs b is rises le =
    within_by b.has_frames b (frame_section (codes ".eh_frame_hdr") b.frame_header b.frame_header_end 4) (frame_section (codes ".eh_frame") b.frames b.frames_end 8)
    (λ has. elim (spots sizes o fs b is) [
      | inl last ↦ (
        record {
          from = omega (arith, le, last.first);
          to = omega (arith, last.header, last.between, last.frames, last.end);
          inside = omega (arith, last.header, last.between, last.frames, last.end, rises.file_least);
        },
        record {
          from = omega (arith, le, last.first, last.header, last.between);
          to = omega (arith, last.frames, last.end);
          inside = omega (arith, last.frames, last.end, rises.file_least);
        },
      )
      | inr none ↦ let wrong : false ≡ true = sym none.has ∙ has in cc
    ])

pub outputs_apart : (sizes : List (List Cut)) (parts : List Item) (o : Orders) (fs : FrameSizes) (b : Bounds) → AllFit sizes o → AreBounds sizes o fs b → AreRising b
    → AreApart b.headers_end (without_tls_nobits (all_sections sizes parts o b))
outputs_apart sizes parts o fs b fit is rises =
    let tn : List OutputSection = sections_along sizes parts TlsNobits (after_tls_bits sizes o b.rw_start b.tls_align) (runs (rows_in o TlsNobits)) in
    let wb : List OutputSection = sections_along sizes parts RwBits (cursor_at b.tls_bits_end) (runs (rows_in o RwBits)) in
    let wn : List OutputSection = sections_along sizes parts RwNobits (cursor_at b.bits_end) (runs (rows_in o RwNobits)) in
    let x : List OutputSection = sections_along sizes parts Rx (cursor_at b.rx_start) (runs (rows_in o Rx)) in
    let tb : List OutputSection = sections_along sizes parts TlsBits (tls_cursor sizes o b.rw_start b.tls_align) (runs (rows_in o TlsBits)) in
    let r : List OutputSection = sections_along sizes parts R (cursor_at b.headers_end) (runs (rows_in o R)) in
    let u : List OutputSection = frame_sections (frames_in b) in
    let last : without_tls_nobits wn ≡ wn ++ [] =
    ap without_tls_nobits (sym (append-nil wn)) ∙ keep_along sizes parts RwNobits (cursor_at b.bits_end) (runs (rows_in o RwNobits)) [] refl in
    let whole : without_tls_nobits (all_sections sizes parts o b) ≡ r ++ (u ++ (x ++ (tb ++ (wb ++ (wn ++ []))))) =
    keep_along sizes parts R (cursor_at b.headers_end) (runs (rows_in o R)) (u ++ (x ++ (tb ++ (tn ++ (wb ++ wn))))) refl
    ∙ ap (λ l. r ++ l) (keep_frames (frames_in b) (x ++ (tb ++ (tn ++ (wb ++ wn))))
    ∙ ap (λ l. u ++ l) (keep_along sizes parts Rx (cursor_at b.rx_start) (runs (rows_in o Rx)) (tb ++ (tn ++ (wb ++ wn))) refl
    ∙ ap (λ l. x ++ l) (keep_along sizes parts TlsBits (tls_cursor sizes o b.rw_start b.tls_align) (runs (rows_in o TlsBits)) (tn ++ (wb ++ wn)) refl
    ∙ ap (λ l. tb ++ l) (drop_along sizes parts (after_tls_bits sizes o b.rw_start b.tls_align) (runs (rows_in o TlsNobits)) (wb ++ wn)
    ∙ keep_along sizes parts RwBits (cursor_at b.tls_bits_end) (runs (rows_in o RwBits)) wn refl ∙ ap (λ l. wb ++ l) last)))) in
    rw whole
    (along sizes parts R (cursor_at b.headers_end) b.headers_end (runs (rows_in o R)) _ (omega arith) (each_run (RowFits sizes) (rows_in o R) (fit R))
    (λ e s. frames_apart sizes o fs b e _ is s
    (λ f a. along sizes parts Rx (cursor_at b.rx_start) f (runs (rows_in o Rx)) _ (omega (arith, a, rises.rx_rounded)) (each_run (RowFits sizes) (rows_in o Rx) (fit Rx))
    (λ f' a'. along sizes parts TlsBits (tls_cursor sizes o b.rw_start b.tls_align) f' (runs (rows_in o TlsBits)) _ (omega (arith, a', is.rx_end, rises.rw_rounded)) (each_run (RowFits sizes) (rows_in o TlsBits) (fit TlsBits))
    (λ f'' a''. along sizes parts RwBits (cursor_at b.tls_bits_end) f'' (runs (rows_in o RwBits)) _ (omega (arith, a'', is.tls_bits_end)) (each_run (RowFits sizes) (rows_in o RwBits) (fit RwBits))
    (λ g c. along sizes parts RwNobits (cursor_at b.bits_end) g (runs (rows_in o RwNobits)) [] (omega (arith, c, is.bits_end)) (each_run (RowFits sizes) (rows_in o RwNobits) (fit RwNobits))
    (λ _ _. tt)))))))

-- within its class
within_step : (e : Bool) (sizes : List (List Cut)) (b : Bounds) (parts : List Item) (class : Class) (c : Cursor) (o : List Row) → is_empty o ≡ e → class_start class b ≤ c.at
    → (if e then c else cursor_at (past sizes (start_of c o) o)).at ≤ class_end class b → class_end class b ≤ bytes_end class b → All (RowFits sizes) o
    → All (IsWithinClass b) (if e then [] else section_of parts class o (start_of c o) (past sizes (start_of c o) o) ∷ [])
unfolding section_of
within_step true sizes b parts class c o e from to space fit = All-nil (IsWithinClass b)
within_step false sizes b parts class c o e from to space fit =
    let start : c.at ≤ start_of c o = start_least c o in
    let end : start_of c o ≤ past sizes (start_of c o) o = past_least sizes (start_of c o) o fit in
    All-cons (IsWithinClass b) _ [] (record { from = omega arith; to = omega arith; inside = omega arith }) (All-nil (IsWithinClass b))

within_in : (sizes : List (List Cut)) (b : Bounds) (parts : List Item) (class : Class) (c : Cursor) (o : List Row) → class_start class b ≤ c.at
    → (after sizes c o).at ≤ class_end class b → class_end class b ≤ bytes_end class b → All (RowFits sizes) o → All (IsWithinClass b) (section_in sizes parts class c o)
unfolding section_in after
within_in sizes b parts class c o from to space fit = within_step (is_empty o) sizes b parts class c o refl from to space fit

within_along : (sizes : List (List Cut)) (b : Bounds) (parts : List Item) (class : Class) (c : Cursor) (os : List (List Row)) → c.extra ≤ ALIGN_MAX → class_start class b ≤ c.at
    → (end_along sizes c os).at ≤ class_end class b → class_end class b ≤ bytes_end class b → EachRun (RowFits sizes) os
    → All (IsWithinClass b) (sections_along sizes parts class c os)
within_along sizes b parts class c [] extra from to space fit = All-nil (IsWithinClass b)
within_along sizes b parts class c (o ∷ os) extra from to space fit =
    let moves : Moves c (after sizes c o) _ = after_moves sizes c o extra fit.0 in
    let later : (after sizes c o).at ≤ (end_along sizes (after sizes c o) os).at = least_along sizes (after sizes c o) os moves.extra fit.1 in
    All-append (IsWithinClass b) (section_in sizes parts class c o) (sections_along sizes parts class (after sizes c o) os)
    (within_in sizes b parts class c o from (omega arith) space fit.0)
    (within_along sizes b parts class (after sizes c o) os moves.extra (omega (arith, moves.least, from)) to space fit.1)

none_in : (sizes : List (List Cut)) (parts : List Item) (class : Class) (c : Cursor) (o : List Row) → is_empty o ≡ true → section_in sizes parts class c o ≡ []
unfolding section_in
none_in sizes parts class c o e = rw e refl

none_along : (sizes : List (List Cut)) (parts : List Item) (class : Class) (c : Cursor) (os : List (List Row)) → EachRun (λ row. row.size ≡ 0) os
    → sections_along sizes parts class c os ≡ []
none_along sizes parts class c [] all = refl
none_along sizes parts class c (o ∷ os) all =
    rw (none_in sizes parts class c o (each_none o all.0)) (none_along sizes parts class (after sizes c o) os all.1)

within_class : (e : Bool) (sizes : List (List Cut)) (b : Bounds) (parts : List Item) (class : Class) (c : Cursor) (rows : List Row) → is_empty rows ≡ e → c.extra ≤ ALIGN_MAX
    → class_start class b ≤ c.at → (end_along sizes c (runs rows)).at ≤ class_end class b → (is_empty rows ≡ false → class_end class b ≤ bytes_end class b)
    → All (RowFits sizes) rows → All (IsWithinClass b) (sections_along sizes parts class c (runs rows))
within_class true sizes b parts class c rows e extra from to space fit =
    rw (none_along sizes parts class c (runs rows) (each_run (λ row. row.size ≡ 0) rows (none_each rows e))) (All-nil (IsWithinClass b))
within_class false sizes b parts class c rows e extra from to space fit =
    within_along sizes b parts class c (runs rows) extra from to (space e) (each_run (RowFits sizes) rows fit)

nobits_by : (z : Bool) (w n : ℕ) → z ≡ false → n ≤ (if not z then n else w)
nobits_by true w n e = cc
nobits_by false w n e = omega arith

pub outputs_within : (sizes : List (List Cut)) (parts : List Item) (o : Orders) (fs : FrameSizes) (b : Bounds) → AllFit sizes o → AreBounds sizes o fs b → AreRising b
    → All (IsWithinClass b) (all_sections sizes parts o b)
outputs_within sizes parts o fs b fit is rises =
    let P : OutputSection → Type 0 = IsWithinClass b in
    let file : b.file_end ≡ last_end o b.r_end b.rx_end b.tls_bits_end b.bits_end = is.file_end in
    let counts = last_counts (is_empty (rows_in o RwBits)) (is_empty (rows_in o TlsBits)) (is_empty (rows_in o Rx)) b.r_end b.rx_end b.tls_bits_end b.bits_end
    (omega (arith, rises.rw_rounded, rises.tls_bits)) rises.bits in
    let extra : b.tls_align ≤ ALIGN_MAX = omega (arith, is.tls_align, tls_most sizes o fit) in
    let moves = class_moves sizes o fs b fit is in
    let image : b.image_end ≡ (if not (is_empty (rows_in o RwNobits)) then b.nobits_end else b.file_end) = is.image_end in
    let between = r_between sizes o fs b is in
    let r : All P (sections_along sizes parts R (cursor_at b.headers_end) (runs (rows_in o R))) =
    within_class (is_empty (rows_in o R)) sizes b parts R (cursor_at b.headers_end) (rows_in o R) refl (omega arith) (omega arith) between.0 (λ full. rises.file_least) (fit R) in
    let u : All P (frame_sections (frames_in b)) = frames_within sizes o fs b is rises moves.r.least in
    let x : All P (sections_along sizes parts Rx (cursor_at b.rx_start) (runs (rows_in o Rx))) =
    within_class (is_empty (rows_in o Rx)) sizes b parts Rx (cursor_at b.rx_start) (rows_in o Rx) refl (omega arith) (omega arith) (omega (arith, is.rx_end))
    (λ full. omega (arith, file, counts.0 full)) (fit Rx) in
    let tb : All P (sections_along sizes parts TlsBits (tls_cursor sizes o b.rw_start b.tls_align) (runs (rows_in o TlsBits))) =
    within_class (is_empty (rows_in o TlsBits)) sizes b parts TlsBits (tls_cursor sizes o b.rw_start b.tls_align) (rows_in o TlsBits) refl extra (omega arith) (omega (arith, is.tls_bits_end))
    (λ full. omega (arith, file, counts.1.0 full)) (fit TlsBits) in
    let tn : All P (sections_along sizes parts TlsNobits (after_tls_bits sizes o b.rw_start b.tls_align) (runs (rows_in o TlsNobits))) =
    within_class (is_empty (rows_in o TlsNobits)) sizes b parts TlsNobits (after_tls_bits sizes o b.rw_start b.tls_align) (rows_in o TlsNobits) refl moves.tls_bits.extra
    (omega (arith, is.tls_bits_end)) (omega (arith, is.tls_end)) (λ full. omega arith) (fit TlsNobits) in
    let wb : All P (sections_along sizes parts RwBits (cursor_at b.tls_bits_end) (runs (rows_in o RwBits))) =
    within_class (is_empty (rows_in o RwBits)) sizes b parts RwBits (cursor_at b.tls_bits_end) (rows_in o RwBits) refl (omega arith) (omega arith) (omega (arith, is.bits_end))
    (λ full. omega (arith, file, counts.1.1 full)) (fit RwBits) in
    let wn : All P (sections_along sizes parts RwNobits (cursor_at b.bits_end) (runs (rows_in o RwNobits))) =
    within_class (is_empty (rows_in o RwNobits)) sizes b parts RwNobits (cursor_at b.bits_end) (rows_in o RwNobits) refl (omega arith) (omega arith) (omega (arith, is.nobits_end))
    (λ full. omega (arith, image, nobits_by (is_empty (rows_in o RwNobits)) b.file_end b.nobits_end full)) (fit RwNobits) in
    All-append P _ _ r (All-append P _ _ u (All-append P _ _ x (All-append P _ _ tb (All-append P _ _ tn (All-append P _ _ wb wn)))))
