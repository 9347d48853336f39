-- The bounds of a layout rise.
use Rattle.std.proofs.Common.{◌≡◌, ℕ, ◌+◌, ◌*◌, ◌^◌, ◌<◌, ◌≤◌, Bool, true, false, not, if◌then◌else◌, List, All, arith}
use Rattle.lk_base.specs.declared.abi.TheConstants.{ALIGN_MAX, EHDR_SIZE, IMAGE_BASE, PAGE, PHDR_SIZE}
use Rattle.lk_base.specs.Arithmetic.{up}
use Rattle.lk_base.proofs.Multiples.{up_below, up_least}
use Rattle.lk_tables.specs.declared.classes.Class.{Class}
use Rattle.lk_tables.specs.declared.classes.Class.TheVariants.{R, Rx, TlsBits, TlsNobits, RwBits, RwNobits}
use Rattle.link_sections.specs.declared.layouts.Bounds.{Bounds}
use Rattle.link_sections.specs.Cuts.{AreApart, Cut}
use Rattle.output_sections.specs.declared.rows.Row.{Row}
use Rattle.layout.specs.Layout.{AreReady, AreSmall, FrameSizes, after_tls_bits, all_weight, count_of, has_frames, has_rw, has_rx, has_tls, headers_of, last_end, tls_align_of, tls_cursor}
use Rattle.output_sections.specs.Order.{Orders, rows_in}
use Rattle.layout.specs.Spots.{AreRising}
use Rattle.layout.specs.Walk.{IsReady, cursor_at, end_along, greatest, is_empty, runs, weight}
use Rattle.layout.proofs.Chain.{AreBounds}
use Rattle.layout.proofs.Cursors.{Moves, RowFits, end_moves, greatest_most}
use Rattle.layout.proofs.FrameSpots.{r_between}
use Rattle.layout.proofs.Runs.{each_run}
use Rattle.layout.proofs.SizeBounds.{size_most}

-- the rows of each class fit
abbrev pub AllFit : (sizes : List (List Cut)) → Orders → Type 0
AllFit sizes o = (class : Class) → All (RowFits sizes) (rows_in o class)

fits_of : (sizes : List (List Cut)) (sections pools : ℕ) (rows : List Row) → All AreApart sizes → All (IsReady sizes sections pools) rows → All (RowFits sizes) rows
fits_of sizes sections pools rows apart ready = λ k d lt. record {
  some = (ready k d lt).some;
  aligned = (ready k d lt).aligned;
  sized = λ start. size_most sizes sections pools start _ apart (ready k d lt);
}

ready_in : (sizes : List (List Cut)) (sections pools : ℕ) (o : Orders) → AreReady sizes sections pools o → (class : Class) → All (IsReady sizes sections pools) (rows_in o class)
ready_in sizes sections pools o ready R = ready.r
ready_in sizes sections pools o ready Rx = ready.rx
ready_in sizes sections pools o ready TlsBits = ready.tls_bits
ready_in sizes sections pools o ready TlsNobits = ready.tls_nobits
ready_in sizes sections pools o ready RwBits = ready.rw_bits
ready_in sizes sections pools o ready RwNobits = ready.rw_nobits

pub all_fit : (sizes : List (List Cut)) (sections pools : ℕ) (o : Orders) → All AreApart sizes → AreReady sizes sections pools o → AllFit sizes o
all_fit sizes sections pools o apart ready class = fits_of sizes sections pools (rows_in o class) apart (ready_in sizes sections pools o ready class)

pub tls_most : (sizes : List (List Cut)) (o : Orders) → AllFit sizes o → tls_align_of o ≤ ALIGN_MAX
unfolding tls_align_of
tls_most sizes o fit =
    let bits : greatest (rows_in o TlsBits) ≤ ALIGN_MAX = greatest_most sizes (rows_in o TlsBits) (fit TlsBits) in
    let nobits : greatest (rows_in o TlsNobits) ≤ ALIGN_MAX = greatest_most sizes (rows_in o TlsNobits) (fit TlsNobits) in
    omega arith

count_most : (b : Bool) → count_of b ≤ 1
count_most true = omega arith
count_most false = omega arith

headers_most : (o : Orders) (fs : FrameSizes) → (2 ≤ headers_of o fs) × (headers_of o fs ≤ 6)
unfolding headers_of
headers_most o fs =
    (omega arith, omega (arith, count_most (has_rx o), count_most (has_rw o), count_most (has_tls o), count_most (has_frames fs)))

-- how each class moves the cursor
pub record ClassMoves (sizes : List (List Cut)) (o : Orders) (b : Bounds) : Type 0 where
  pub r : Moves (cursor_at b.headers_end) (end_along sizes (cursor_at b.headers_end) (runs (rows_in o R))) (weight (rows_in o R))
  pub rx : Moves (cursor_at b.rx_start) (end_along sizes (cursor_at b.rx_start) (runs (rows_in o Rx))) (weight (rows_in o Rx))
  pub tls_bits : Moves (tls_cursor sizes o b.rw_start b.tls_align) (after_tls_bits sizes o b.rw_start b.tls_align) (weight (rows_in o TlsBits))
  pub tls_nobits : Moves (after_tls_bits sizes o b.rw_start b.tls_align) (end_along sizes (after_tls_bits sizes o b.rw_start b.tls_align) (runs (rows_in o TlsNobits))) (weight (rows_in o TlsNobits))
  pub rw_bits : Moves (cursor_at b.tls_bits_end) (end_along sizes (cursor_at b.tls_bits_end) (runs (rows_in o RwBits))) (weight (rows_in o RwBits))
  pub rw_nobits : Moves (cursor_at b.bits_end) (end_along sizes (cursor_at b.bits_end) (runs (rows_in o RwNobits))) (weight (rows_in o RwNobits))

pub class_moves : (sizes : List (List Cut)) (o : Orders) (fs : FrameSizes) (b : Bounds) → AllFit sizes o → AreBounds sizes o fs b → ClassMoves sizes o b
class_moves sizes o fs b fit is =
    let extra : b.tls_align ≤ ALIGN_MAX = omega (arith, is.tls_align, tls_most sizes o fit) in
    let bits = end_moves sizes (tls_cursor sizes o b.rw_start b.tls_align) (rows_in o TlsBits) extra (each_run (RowFits sizes) (rows_in o TlsBits) (fit TlsBits)) in
    record {
      r = end_moves sizes (cursor_at b.headers_end) (rows_in o R) (omega arith) (each_run (RowFits sizes) (rows_in o R) (fit R));
      rx = end_moves sizes (cursor_at b.rx_start) (rows_in o Rx) (omega arith) (each_run (RowFits sizes) (rows_in o Rx) (fit Rx));
      tls_bits = bits;
      tls_nobits = end_moves sizes (after_tls_bits sizes o b.rw_start b.tls_align) (rows_in o TlsNobits) bits.extra (each_run (RowFits sizes) (rows_in o TlsNobits) (fit TlsNobits));
      rw_bits = end_moves sizes (cursor_at b.tls_bits_end) (rows_in o RwBits) (omega arith) (each_run (RowFits sizes) (rows_in o RwBits) (fit RwBits));
      rw_nobits = end_moves sizes (cursor_at b.bits_end) (rows_in o RwNobits) (omega arith) (each_run (RowFits sizes) (rows_in o RwNobits) (fit RwNobits));
    }

last_between : (p q s : Bool) (r x t w : ℕ) → r ≤ x → x ≤ t → t ≤ w
    → (r ≤ (if not p then w else if not q then t else if not s then x else r)) × ((if not p then w else if not q then t else if not s then x else r) ≤ w)
last_between false q s r x t w rx xt tw = (omega arith, omega arith)
last_between true false s r x t w rx xt tw = (omega arith, omega arith)
last_between true true false r x t w rx xt tw = (omega arith, omega arith)
last_between true true true r x t w rx xt tw = (omega arith, omega arith)

image_between : (p : Bool) (w n : ℕ) → w ≤ n → (w ≤ (if not p then n else w)) × ((if not p then n else w) ≤ n)
image_between true w n le = (omega arith, omega arith)
image_between false w n le = (omega arith, omega arith)

pub rising : (sizes : List (List Cut)) (o : Orders) (fs : FrameSizes) (b : Bounds) → AllFit sizes o → all_weight o + 2 ^ 60 + 2 ^ 59 + 2 ^ 45 < 2 ^ 63 → AreSmall fs → AreBounds sizes o fs b → AreRising b
rising sizes o fs b fit room small is =
    let m = class_moves sizes o fs b fit is in
    let headers = headers_most o fs in
    let rows = r_between sizes o fs b is in
    let rx_up : b.r_end ≤ up b.r_end PAGE = up_least b.r_end PAGE (omega arith) in
    let rx_near : up b.r_end PAGE < b.r_end + PAGE = up_below b.r_end PAGE (omega arith) in
    let rw_up : b.rx_end ≤ up b.rx_end PAGE = up_least b.rx_end PAGE (omega arith) in
    let rw_near : up b.rx_end PAGE < b.rx_end + PAGE = up_below b.rx_end PAGE (omega arith) in
    let headers_is : b.headers ≡ headers_of o fs = is.headers in
    let first : b.headers_end ≡ IMAGE_BASE + (EHDR_SIZE + PHDR_SIZE * b.headers) = is.headers_end in
    let r : (b.headers_end ≤ b.r_end) × (b.r_end ≤ b.headers_end + weight (rows_in o R) + 2 ^ 60 + 2 ^ 59 + 2 ^ 44) =
    (omega (arith, m.r.least, rows.0), omega (arith, m.r.most, rows.1, small.header, small.frame)) in
    let rx : (b.rx_start ≤ b.rx_end) × (b.rx_end ≤ b.rx_start + weight (rows_in o Rx)) = (omega (arith, m.rx.least, is.rx_end), omega (arith, m.rx.most, is.rx_end)) in
    let tls : (b.rw_start ≤ b.tls_bits_end) × (b.tls_bits_end ≤ b.rw_start + weight (rows_in o TlsBits)) =
    (omega (arith, m.tls_bits.least, is.tls_bits_end), omega (arith, m.tls_bits.most, is.tls_bits_end)) in
    let nobits_members : (b.tls_bits_end ≤ b.tls_end) × (b.tls_end ≤ b.tls_bits_end + weight (rows_in o TlsNobits)) =
    (omega (arith, m.tls_nobits.least, is.tls_bits_end, is.tls_end), omega (arith, m.tls_nobits.most, is.tls_bits_end, is.tls_end)) in
    let bits : (b.tls_bits_end ≤ b.bits_end) × (b.bits_end ≤ b.tls_bits_end + weight (rows_in o RwBits)) =
    (omega (arith, m.rw_bits.least, is.bits_end), omega (arith, m.rw_bits.most, is.bits_end)) in
    let nobits : (b.bits_end ≤ b.nobits_end) × (b.nobits_end ≤ b.bits_end + weight (rows_in o RwNobits)) =
    (omega (arith, m.rw_nobits.least, is.nobits_end), omega (arith, m.rw_nobits.most, is.nobits_end)) in
    let rx_is : b.rx_start ≡ up b.r_end PAGE = is.rx_start in
    let rw_is : b.rw_start ≡ up b.rx_end PAGE = is.rw_start in
    let file = last_between (is_empty (rows_in o RwBits)) (is_empty (rows_in o TlsBits)) (is_empty (rows_in o Rx)) b.r_end b.rx_end b.tls_bits_end b.bits_end
    (omega (arith, rx_is, rx_up, rx.0)) (omega (arith, rw_is, rw_up, tls.0)) bits.0 in
    let file_is : b.file_end ≡ last_end o b.r_end b.rx_end b.tls_bits_end b.bits_end = is.file_end in
    let file_most : b.file_end ≤ b.bits_end = rw file_is file.1 in
    let image = image_between (is_empty (rows_in o RwNobits)) b.file_end b.nobits_end (omega (arith, file_most, nobits.0)) in
    record {
      first = omega (arith, first, headers_is, headers.0);
      r = r.0;
      rx_rounded = omega (arith, rx_is, rx_up);
      rx = rx.0;
      rw_rounded = omega (arith, rw_is, rw_up);
      tls_bits = tls.0;
      tls_nobits = nobits_members.0;
      bits = bits.0;
      nobits = nobits.0;
      file_least = rw file_is file.0;
      file_most = file_most;
      image_least = rw is.image_end image.0;
      image_most = rw is.image_end image.1;
      room = omega (arith, room, first, headers_is, headers.1, r.1, rx_is, rx_near, rx.1, rw_is, rw_near, tls.1, bits.1, nobits.1);
      tls_room = omega (arith, room, first, headers_is, headers.1, r.1, rx_is, rx_near, rx.1, rw_is, rw_near, tls.1, nobits_members.1);
    }
