-- The bytes of a section while its relocations are done one after the other: each changes its own place alone.
use Rattle.std.proofs.Common.{◌≡◌, ℕ, ◌+◌, ◌-◌, ◌<◌, ◌≤◌, Bool, true, false, if◌then◌else◌, List, ◌++◌, length, take, drop, get_or, slice_index, refl, ap, ◌∙◌, arith, ℤ, Option, Some, None}
use Rattle.std.proofs.Math.Seq.{get_or-append_right}
use Rattle.std.proofs.lemmas.Bool.{cond-false}
use Rattle.std.proofs.lemmas.List.{get_or_append_left, get_or-take, get_or-drop, length-take-le, length-drop}
use Rattle.std.proofs.lemmas.List.FromFn.{length-map-range_with_len}
use Rattle.lk_base.specs.RelocKinds.{Kind, is_uleb}
use Rattle.lk_base.proofs.TableLines.{width_few}
use Rattle.lk_tables.specs.declared.objects.Reloc.{Reloc}
use Rattle.lk_tables.specs.Binding.{Bindings}
use Rattle.lk_tables.specs.Files.{File}
use Rattle.lk_tables.specs.Relocations.{value_len}
use Rattle.lk_tables.specs.Sites.{contents_at}
use Rattle.lk_tables.proofs.Widths.{value_few}
use Rattle.link_sections.specs.Calls.{acting_kind, acting_number, acting_width, width_in}
use Rattle.link_sections.specs.LaidOut.{LaidOut, cuts_at}
use Rattle.rv_code.specs.Places.{held_at}
use Rattle.rv_code.specs.Uleb.{uleb_filled, uleb_patched}
use Rattle.rv_code.proofs.WholePlaces.{laid_length, patched_length}
use Rattle.reloc_apply.specs.Relocated.{filled, operand, put, width_at}
use Rattle.reloc_apply.specs.Values.{offset_of, sum_of, value_of}

uleb_length : (v : ℤ) (place : List ℕ) → length (uleb_patched v place) ≡ length place
unfolding uleb_filled
uleb_length v place = length-map-range_with_len _ 0 (length place)

pub filled_length : (uleb : Bool) (kind : Kind) (v : Option ℤ) (place : List ℕ) → length (filled uleb kind v place) ≡ length place
filled_length uleb kind None place = refl
filled_length true kind (Some v) place = uleb_length v place
filled_length false kind (Some v) place = patched_length kind.field v place

-- new bytes of the same length at a place
laid_before : (at w : ℕ) (new bytes : List ℕ) (q : ℕ) → at + w ≤ length bytes → length new ≡ w → q < at →
    get_or (take at bytes ++ (new ++ drop (at + w) bytes)) q 0 ≡ get_or bytes q 0
laid_before at w new bytes q fits is lt =
    get_or_append_left (take at bytes) (new ++ drop (at + w) bytes) 0 q (omega (arith, length-take-le at bytes (omega (arith, fits)), lt))
    ∙ get_or-take at bytes q 0 lt

laid_within : (at w : ℕ) (new bytes : List ℕ) (q : ℕ) → at + w ≤ length bytes → length new ≡ w → at ≤ q → q < at + w →
    get_or (take at bytes ++ (new ++ drop (at + w) bytes)) q 0 ≡ get_or new (q - at) 0
laid_within at w new bytes q fits is le lt =
    let long = length-take-le at bytes (omega (arith, fits)) in
    get_or-append_right (take at bytes) (new ++ drop (at + w) bytes) q 0 (omega (arith, long, le))
    ∙ ap (λ k. get_or (new ++ drop (at + w) bytes) (q - k) 0) long
    ∙ get_or_append_left new (drop (at + w) bytes) 0 (q - at) (omega (arith, is, le, lt))

laid_after : (at w : ℕ) (new bytes : List ℕ) (q : ℕ) → at + w ≤ length bytes → length new ≡ w → at + w ≤ q →
    get_or (take at bytes ++ (new ++ drop (at + w) bytes)) q 0 ≡ get_or bytes q 0
laid_after at w new bytes q fits is le =
    let long = length-take-le at bytes (omega (arith, fits)) in
    let e : at + w + (q - at - length new) ≡ q = omega (arith, is, le) in
    get_or-append_right (take at bytes) (new ++ drop (at + w) bytes) q 0 (omega (arith, long, le))
    ∙ ap (λ k. get_or (new ++ drop (at + w) bytes) (q - k) 0) long
    ∙ get_or-append_right new (drop (at + w) bytes) (q - at) 0 (omega (arith, is, le))
    ∙ get_or-drop (at + w) bytes (q - at - length new) 0
    ∙ ap (λ k. get_or bytes k 0) e

module _ (files : List File) (b : Bindings) (leaders : List (Option ℕ)) (laid : LaidOut) (n : ℕ) where
  abbrev pub at_of : Reloc → ℕ
  at_of r = offset_of files b leaders laid n r

  abbrev pub kind_at : Reloc → Kind
  kind_at r = acting_kind (cuts_at laid n) r

  abbrev pub width_of : Reloc → ℕ
  width_of r = width_at files b leaders laid n r

  -- what the place of relocation r, which comes after p, gets that held these bytes, by the number that they are
  abbrev pub fill : (p r : Reloc) → (held : ℤ) → List ℕ → List ℕ
  fill p r held place =
      filled (is_uleb r.kind) (kind_at r) (value_of files b leaders laid n r (operand files b leaders laid n p r held)) place

  abbrev pub Fits : List ℕ → Reloc → Type 0
  Fits bytes r = at_of r + width_of r ≤ length bytes

  -- a place has few bytes, and fewer where it is no ULEB128 number
  pub plain_width : (r : Reloc) → is_uleb r.kind ≡ false → width_of r ≡ acting_width (cuts_at laid n) r
  unfolding width_in
  plain_width r plain = cond-false (is_uleb r.kind) (value_len (contents_at files n) r) (acting_width (cuts_at laid n) r) plain

  pub wide_few : (r : Reloc) → width_of r ≤ 10
  unfolding width_in
  wide_few r = by (is_uleb r.kind)
    where
      by : (c : Bool) → (if c then value_len (contents_at files n) r else acting_width (cuts_at laid n) r) ≤ 10
      by true = value_few (contents_at files n) r
      by false = omega (arith, width_few (acting_number (cuts_at laid n) r))

  pub plain_few : (r : Reloc) → is_uleb r.kind ≡ false → width_of r ≤ 8
  plain_few r plain = omega (arith, plain_width r plain, width_few (acting_number (cuts_at laid n) r))

  -- V of a ULEB128 number is not what its place holds
  pub operand_same : (p r : Reloc) (x y : ℤ) → (is_uleb r.kind ≡ false → x ≡ y) → operand files b leaders laid n p r x ≡ operand files b leaders laid n p r y
  unfolding operand
  operand_same p r x y same = by (is_uleb r.kind) same
    where
      by : (c : Bool) → (c ≡ false → x ≡ y) → (if c then sum_of files b leaders laid n p else x) ≡ (if c then sum_of files b leaders laid n p else y)
      by true same = refl
      by false same = same refl

  held_length : (r : Reloc) (bytes : List ℕ) → Fits bytes r → length (take (width_of r) (drop (at_of r) bytes)) ≡ width_of r
  held_length r bytes fits = length-take-le (width_of r) (drop (at_of r) bytes) (omega (arith, fits, length-drop (at_of r) bytes))

  new_length : (p r : Reloc) (bytes : List ℕ) → Fits bytes r →
      length (fill p r (held_at (width_of r) (at_of r) bytes) (take (width_of r) (drop (at_of r) bytes))) ≡ width_of r
  new_length p r bytes fits = filled_length (is_uleb r.kind) (kind_at r) _ (take (width_of r) (drop (at_of r) bytes)) ∙ held_length r bytes fits

  pub put_length : (p r : Reloc) (bytes : List ℕ) → length (put files b leaders laid n p r bytes) ≡ length bytes
  put_length p r bytes = laid_length (at_of r) (width_of r) _ bytes (filled_length (is_uleb r.kind) (kind_at r) _ (take (width_of r) (drop (at_of r) bytes)))

  pub put_before : (p r : Reloc) (bytes : List ℕ) (q : ℕ) → Fits bytes r → q < at_of r →
      slice_index (put files b leaders laid n p r bytes) q ≡ slice_index bytes q
  put_before p r bytes q fits lt = laid_before (at_of r) (width_of r) _ bytes q fits (new_length p r bytes fits) lt

  pub put_after : (p r : Reloc) (bytes : List ℕ) (q : ℕ) → Fits bytes r → at_of r + width_of r ≤ q →
      slice_index (put files b leaders laid n p r bytes) q ≡ slice_index bytes q
  put_after p r bytes q fits le = laid_after (at_of r) (width_of r) _ bytes q fits (new_length p r bytes fits) le

  pub put_within : (p r : Reloc) (bytes : List ℕ) (q : ℕ) → Fits bytes r → at_of r ≤ q → q < at_of r + width_of r →
      slice_index (put files b leaders laid n p r bytes) q
      ≡ slice_index (fill p r (held_at (width_of r) (at_of r) bytes) (take (width_of r) (drop (at_of r) bytes))) (q - at_of r)
  put_within p r bytes q fits le lt = laid_within (at_of r) (width_of r) _ bytes q fits (new_length p r bytes fits) le lt
