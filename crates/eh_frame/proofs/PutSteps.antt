-- A relocation done in a record, and all of them one after the other.
use Rattle.std.proofs.Common.{◌≡◌, ℕ, ◌+◌, ◌-◌, true, false, List, [], ◌∷◌, ◌++◌, length, take, drop, refl, sym, ap, ◌∙◌, arith, ℤ, pos, Option, Some, None}
use borrow.Rule.Slice.PartMut.{put_mid}
use Rattle.std.proofs.lemmas.Bool.{cond-false, lt-ltb}
use Rattle.std.proofs.lemmas.List.{drop-drop, take-append-drop}
use Rattle.lk_base.specs.RelocKinds.{FillsField, Kind, fills_field, has_value, kind_of, puts_value}
use Rattle.lk_base.specs.declared.relocations.Calculation.{Calculation}
use Rattle.lk_base.specs.declared.relocations.Calculation.TheVariants.{Nothing, Hint, Padding, Address, Distance, Partner, GotDistance, ThreadOffset, Increase, Decrease}
use Rattle.lk_base.proofs.TableLines.{has_value_if, width_some}
use Rattle.lk_tables.specs.declared.objects.Reloc.{Reloc}
use Rattle.lk_tables.specs.Binding.{Bindings}
use Rattle.lk_tables.specs.Files.{File}
use Rattle.lk_tables.specs.Records.{has_width}
use Rattle.lk_tables.specs.Relocations.{is_alignment, is_padding, place_width}
use Rattle.link_sections.specs.LaidOut.{LaidOut}
use Rattle.rv_code.specs.Places.{held_at, number_of}
use Rattle.rv_code.proofs.WholePlaces.{laid_length, patched_length}
use Rattle.eh_frame.specs.Bytes.{computed, filled, put, relocated, sum_in, value_in}

-- what fills a field has as many bytes as its kind says, one at least
no_padding : (c : Calculation) → puts_value c ≡ true → is_padding c ≡ false
no_padding Padding is = cc
no_padding Nothing is = refl
no_padding Hint is = refl
no_padding Address is = refl
no_padding Distance is = refl
no_padding Partner is = refl
no_padding GotDistance is = refl
no_padding ThreadOffset is = refl
no_padding Increase is = refl
no_padding Decrease is = refl

pub fills_width : (r : Reloc) → FillsField r.kind → place_width r ≡ (kind_of r.kind).width
unfolding place_width is_alignment has_value
fills_width r fills =
    cond-false (is_padding (kind_of r.kind).calculation) _ (kind_of r.kind).width (no_padding (kind_of r.kind).calculation (has_value_if r.kind fills))

pub fills_some : (r : Reloc) → FillsField r.kind → has_width r ≡ true
fills_some r fills = lt-ltb 0 (place_width r) (omega (arith, fills_width r fills, width_some r.kind (has_value_if r.kind fills)))

-- a place as it was
whole : (at w : ℕ) (bytes : List ℕ) → take at bytes ++ (take w (drop at bytes) ++ drop (at + w) bytes) ≡ bytes
whole at w bytes =
    ap (λ l. take at bytes ++ (take w (drop at bytes) ++ l)) (sym (drop-drop w at bytes))
    ∙ ap (λ l. take at bytes ++ l) (take-append-drop w (drop at bytes)) ∙ take-append-drop at bytes

filled_length : (kind : Kind) (v : Option ℤ) (place : List ℕ) → length (filled kind v place) ≡ length place
filled_length kind None place = refl
filled_length kind (Some v) place = patched_length kind.field v place

module _ (files : List File) (b : Bindings) (leaders : List (Option ℕ)) (laid : LaidOut) (f from address : ℕ) where
  pub put_none : (r : Reloc) (bytes : List ℕ) → fills_field r.kind ≡ false → put files b leaders laid f from address r bytes ≡ bytes
  unfolding put value_in
  put_none r bytes off =
      let at = r.offset - from in
      let kind = kind_of r.kind in
      ap (λ v. take at bytes ++ (filled kind v (take kind.width (drop at bytes)) ++ drop (at + kind.width) bytes))
      (cond-false (fills_field r.kind) (computed kind.calculation (sum_in files b leaders laid f r) (pos (address + at)) (held_at kind.width at bytes)) None off)
      ∙ whole at kind.width bytes

  -- its place stands from `at` to `end`
  pub put_some : (r : Reloc) (bytes new : List ℕ) (at end : ℕ) → at ≡ r.offset - from → end ≡ at + (kind_of r.kind).width →
      new ≡ filled (kind_of r.kind) (value_in files b leaders laid f r (pos (address + at)) (pos (number_of (take (end - at) (drop at bytes))))) (take (end - at) (drop at bytes)) →
      put_mid at (end - at) bytes new ≡ put files b leaders laid f from address r bytes
  unfolding put
  put_some r bytes new at end at_is end_is new_is =
      let kind = kind_of r.kind in
      let wide : end - at ≡ kind.width = omega (arith, end_is) in
      ap (λ l. take at bytes ++ (l ++ drop (end - at) (drop at bytes))) new_is
      ∙ ap (λ w. take at bytes ++ (filled kind (value_in files b leaders laid f r (pos (address + at)) (pos (number_of (take w (drop at bytes))))) (take w (drop at bytes)) ++ drop w (drop at bytes))) wide
      ∙ ap (λ l. take at bytes ++ (filled kind (value_in files b leaders laid f r (pos (address + at)) (pos (number_of (take kind.width (drop at bytes))))) (take kind.width (drop at bytes)) ++ l)) (drop-drop kind.width at bytes)
      ∙ ap (λ a. take a bytes ++ (filled kind (value_in files b leaders laid f r (pos (address + a)) (pos (number_of (take kind.width (drop a bytes))))) (take kind.width (drop a bytes)) ++ drop (a + kind.width) bytes)) at_is

  pub put_length : (r : Reloc) (bytes : List ℕ) → length (put files b leaders laid f from address r bytes) ≡ length bytes
  unfolding put
  put_length r bytes =
      laid_length (r.offset - from) (kind_of r.kind).width _ bytes (filled_length (kind_of r.kind) _ (take (kind_of r.kind).width (drop (r.offset - from) bytes)))

  pub relocated_length : (relocs : List Reloc) (bytes : List ℕ) → length (relocated files b leaders laid f from address relocs bytes) ≡ length bytes
  relocated_length [] bytes = refl
  relocated_length (r ∷ rs) bytes = relocated_length rs (put files b leaders laid f from address r bytes) ∙ put_length r bytes
