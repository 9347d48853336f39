-- The bounds of a layout, from what each step of the walk gives.
use Rattle.std.proofs.Common.{◌≡◌, ℕ, ◌+◌, ◌*◌, not, if◌then◌else◌, List, refl, ap, ◌∙◌, sym}
use Rattle.lk_base.specs.declared.abi.TheConstants.{EHDR_SIZE, IMAGE_BASE, PAGE, PHDR_SIZE}
use Rattle.lk_base.specs.Arithmetic.{up}
use Rattle.link_sections.specs.declared.layouts.Bounds.{Bounds}
use Rattle.link_sections.specs.Cuts.{Cut}
use Rattle.layout.specs.declared.frames.FrameBounds.{FrameBounds}
use Rattle.layout.specs.declared.walk.Cursor.{Cursor}
use Rattle.lk_tables.specs.declared.classes.Class.TheVariants.{R, Rx, TlsNobits, RwBits, RwNobits}
use Rattle.output_sections.specs.Order.{Orders, rows_in}
use Rattle.layout.specs.Walk.{cursor_at, end_along, is_empty, runs}
use Rattle.layout.specs.Layout.{FrameSizes, after_tls_bits, bits_end_of, bounds_of, file_end_of, frame_bounds, frames_of, has_rw, has_rx, has_tls, has_tls_bits, headers_end_of, headers_of, image_end_of, last_end, nobits_end_of, r_end_of, rows_end_of, rw_start_of, rx_end_of, rx_start_of, tls_align_of, tls_bits_end_of, tls_end_of, tls_start_of}

-- those of the unwind records, and the end of R with them
pub record AreFrames (f : FrameBounds) (b : Bounds) : Type 0 where
  pub has : b.has_frames ≡ f.has_frames
  pub header : b.frame_header ≡ f.header
  pub header_end : b.frame_header_end ≡ f.header_end
  pub frames : b.frames ≡ f.frames
  pub frames_end : b.frames_end ≡ f.frames_end
  pub r_end : b.r_end ≡ f.r_end

-- each bound from those before it
pub record AreBounds (sizes : List (List Cut)) (o : Orders) (fs : FrameSizes) (b : Bounds) : Type 0 where
  pub rx_is : b.has_rx ≡ has_rx o
  pub rw_is : b.has_rw ≡ has_rw o
  pub tls_is : b.has_tls ≡ has_tls o
  pub tls_bits_is : b.has_tls_bits ≡ has_tls_bits o
  pub headers : b.headers ≡ headers_of o fs
  pub headers_end : b.headers_end ≡ IMAGE_BASE + (EHDR_SIZE + PHDR_SIZE * b.headers)
  pub frames_are : AreFrames (frame_bounds fs (end_along sizes (cursor_at b.headers_end) (runs (rows_in o R))).at) b
  pub rx_start : b.rx_start ≡ up b.r_end PAGE
  pub rx_end : b.rx_end ≡ (end_along sizes (cursor_at b.rx_start) (runs (rows_in o Rx))).at
  pub rw_start : b.rw_start ≡ up b.rx_end PAGE
  pub tls_align : b.tls_align ≡ tls_align_of o
  pub tls_start : b.tls_start ≡ (if has_tls o then up b.rw_start b.tls_align else 0)
  pub tls_bits_end : b.tls_bits_end ≡ (after_tls_bits sizes o b.rw_start b.tls_align).at
  pub tls_end : b.tls_end ≡ (end_along sizes (after_tls_bits sizes o b.rw_start b.tls_align) (runs (rows_in o TlsNobits))).at
  pub bits_end : b.bits_end ≡ (end_along sizes (cursor_at b.tls_bits_end) (runs (rows_in o RwBits))).at
  pub nobits_end : b.nobits_end ≡ (end_along sizes (cursor_at b.bits_end) (runs (rows_in o RwNobits))).at
  pub file_end : b.file_end ≡ last_end o b.r_end b.rx_end b.tls_bits_end b.bits_end
  pub image_end : b.image_end ≡ (if not (is_empty (rows_in o RwNobits)) then b.nobits_end else b.file_end)

pub bounds_are : (sizes : List (List Cut)) (o : Orders) (fs : FrameSizes) → AreBounds sizes o fs (bounds_of sizes o fs)
unfolding bounds_of headers_end_of rows_end_of frames_of r_end_of rx_start_of rx_end_of rw_start_of tls_start_of tls_bits_end_of tls_end_of bits_end_of nobits_end_of file_end_of image_end_of
bounds_are sizes o fs = record {
  rx_is = refl;
  rw_is = refl;
  tls_is = refl;
  tls_bits_is = refl;
  headers = refl;
  headers_end = refl;
  frames_are = record { has = refl; header = refl; header_end = refl; frames = refl; frames_end = refl; r_end = refl };
  rx_start = refl;
  rx_end = refl;
  rw_start = refl;
  tls_align = refl;
  tls_start = refl;
  tls_bits_end = refl;
  tls_end = refl;
  bits_end = refl;
  nobits_end = refl;
  file_end = refl;
  image_end = refl;
}

-- they are one: two chains give the same bounds
same_bounds : (a b : Bounds) → a.has_rx ≡ b.has_rx → a.has_rw ≡ b.has_rw → a.has_tls ≡ b.has_tls → a.has_tls_bits ≡ b.has_tls_bits → a.has_frames ≡ b.has_frames
    → a.headers ≡ b.headers → a.headers_end ≡ b.headers_end → a.frame_header ≡ b.frame_header → a.frame_header_end ≡ b.frame_header_end → a.frames ≡ b.frames
    → a.frames_end ≡ b.frames_end → a.r_end ≡ b.r_end → a.rx_start ≡ b.rx_start → a.rx_end ≡ b.rx_end → a.rw_start ≡ b.rw_start → a.tls_start ≡ b.tls_start
    → a.tls_bits_end ≡ b.tls_bits_end → a.tls_end ≡ b.tls_end → a.tls_align ≡ b.tls_align → a.bits_end ≡ b.bits_end → a.nobits_end ≡ b.nobits_end
    → a.file_end ≡ b.file_end → a.image_end ≡ b.image_end → a ≡ b
same_bounds a b e1 e2 e3 e4 e5 e6 e7 e8 e9 e10 e11 e12 e13 e14 e15 e16 e17 e18 e19 e20 e21 e22 e23 =
    rw (e1, e2, e3, e4, e5, e6, e7, e8, e9, e10, e11, e12, e13, e14, e15, e16, e17, e18, e19, e20, e21, e22, e23) refl

pub bounds_is : (sizes : List (List Cut)) (o : Orders) (fs : FrameSizes) (b : Bounds) → AreBounds sizes o fs b → b ≡ bounds_of sizes o fs
bounds_is sizes o fs b is =
    let a : Bounds = bounds_of sizes o fs in
    let k = bounds_are sizes o fs in
    let headers : b.headers ≡ a.headers = is.headers ∙ sym k.headers in
    let headers_end : b.headers_end ≡ a.headers_end = is.headers_end ∙ ap (λ x. IMAGE_BASE + (EHDR_SIZE + PHDR_SIZE * x)) headers ∙ sym k.headers_end in
    let last : ℕ → FrameBounds = λ x. frame_bounds fs (end_along sizes (cursor_at x) (runs (rows_in o R))).at in
    let has_frames : b.has_frames ≡ a.has_frames = is.frames_are.has ∙ ap (λ x. (last x).has_frames) headers_end ∙ sym k.frames_are.has in
    let frame_header : b.frame_header ≡ a.frame_header = is.frames_are.header ∙ ap (λ x. (last x).header) headers_end ∙ sym k.frames_are.header in
    let frame_header_end : b.frame_header_end ≡ a.frame_header_end = is.frames_are.header_end ∙ ap (λ x. (last x).header_end) headers_end ∙ sym k.frames_are.header_end in
    let frames : b.frames ≡ a.frames = is.frames_are.frames ∙ ap (λ x. (last x).frames) headers_end ∙ sym k.frames_are.frames in
    let frames_end : b.frames_end ≡ a.frames_end = is.frames_are.frames_end ∙ ap (λ x. (last x).frames_end) headers_end ∙ sym k.frames_are.frames_end in
    let r_end : b.r_end ≡ a.r_end = is.frames_are.r_end ∙ ap (λ x. (last x).r_end) headers_end ∙ sym k.frames_are.r_end in
    let rx_start : b.rx_start ≡ a.rx_start = is.rx_start ∙ ap (λ x. up x PAGE) r_end ∙ sym k.rx_start in
    let rx_end : b.rx_end ≡ a.rx_end = is.rx_end ∙ ap (λ x. (end_along sizes (cursor_at x) (runs (rows_in o Rx))).at) rx_start ∙ sym k.rx_end in
    let rw_start : b.rw_start ≡ a.rw_start = is.rw_start ∙ ap (λ x. up x PAGE) rx_end ∙ sym k.rw_start in
    let tls_align : b.tls_align ≡ a.tls_align = is.tls_align ∙ sym k.tls_align in
    let tls_start : b.tls_start ≡ a.tls_start = is.tls_start ∙ ap (λ x. if has_tls o then up x b.tls_align else 0) rw_start
    ∙ ap (λ x. if has_tls o then up a.rw_start x else 0) tls_align ∙ sym k.tls_start in
    let after_bits : after_tls_bits sizes o b.rw_start b.tls_align ≡ after_tls_bits sizes o a.rw_start a.tls_align =
    ap (λ x. after_tls_bits sizes o x b.tls_align) rw_start ∙ ap (λ x. after_tls_bits sizes o a.rw_start x) tls_align in
    let tls_bits_end : b.tls_bits_end ≡ a.tls_bits_end = is.tls_bits_end ∙ ap (λ (x : Cursor). x.at) after_bits ∙ sym k.tls_bits_end in
    let tls_end : b.tls_end ≡ a.tls_end = is.tls_end ∙ ap (λ x. (end_along sizes x (runs (rows_in o TlsNobits))).at) after_bits ∙ sym k.tls_end in
    let bits_end : b.bits_end ≡ a.bits_end = is.bits_end ∙ ap (λ x. (end_along sizes (cursor_at x) (runs (rows_in o RwBits))).at) tls_bits_end ∙ sym k.bits_end in
    let nobits_end : b.nobits_end ≡ a.nobits_end = is.nobits_end ∙ ap (λ x. (end_along sizes (cursor_at x) (runs (rows_in o RwNobits))).at) bits_end ∙ sym k.nobits_end in
    let file_end : b.file_end ≡ a.file_end = is.file_end ∙ ap (λ x. last_end o x b.rx_end b.tls_bits_end b.bits_end) r_end
    ∙ ap (λ x. last_end o a.r_end x b.tls_bits_end b.bits_end) rx_end ∙ ap (λ x. last_end o a.r_end a.rx_end x b.bits_end) tls_bits_end
    ∙ ap (λ x. last_end o a.r_end a.rx_end a.tls_bits_end x) bits_end ∙ sym k.file_end in
    let image_end : b.image_end ≡ a.image_end = is.image_end ∙ ap (λ x. if not (is_empty (rows_in o RwNobits)) then x else b.file_end) nobits_end
    ∙ ap (λ x. if not (is_empty (rows_in o RwNobits)) then a.nobits_end else x) file_end ∙ sym k.image_end in
    same_bounds b a (is.rx_is ∙ sym k.rx_is) (is.rw_is ∙ sym k.rw_is) (is.tls_is ∙ sym k.tls_is) (is.tls_bits_is ∙ sym k.tls_bits_is) has_frames headers headers_end
    frame_header frame_header_end frames frames_end r_end rx_start rx_end rw_start tls_start tls_bits_end tls_end tls_align bits_end nobits_end file_end image_end
