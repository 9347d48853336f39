-- Hints: relocations that only say that what stands at their places may be relaxed. They put nothing anywhere.
use Rattle.std.proofs.Common.{◌≡◌, ℕ, ◌+◌, ◌-◌, ◌<◌, ◌≤◌, Bool, false, Option, List, [], ◌∷◌, ◌++◌, length, take, drop, refl, ap, sym, ◌∙◌, arith, inl, inr}
use Rattle.std.specs.Prelude.{ℤ, None, pos, not, ◌&&◌, is_some, slice_index, if◌then◌else◌, option_and_then}
use Rattle.std.proofs.lemmas.Bool.{cases_lt}
use Rattle.std.proofs.lemmas.List.{take-append-drop}
use Rattle.lk_base.specs.RelocKinds.{is_lower, is_uleb, kind_of}
use Rattle.lk_base.specs.declared.abi.TheConstants.{R_RISCV_RELAX}
use Rattle.lk_base.specs.declared.kinds.TheConstants as kinds
use Rattle.lk_tables.specs.declared.objects.Reloc.{Reloc}
use Rattle.lk_tables.specs.Binding.{Bindings}
use Rattle.lk_tables.specs.Files.{File}
use Rattle.lk_tables.specs.Relocations.{value_len}
use Rattle.lk_tables.specs.Sites as sites
use Rattle.lk_tables.specs.Walks.{reloc_defect}
use Rattle.lk_tables.specs.Misfits.{value_defects}
use Rattle.link_sections.specs.Calls.{acting_kind, acting_number, call_size, is_call, kind_by_size, width_in}
use Rattle.link_sections.specs.Cuts.{Cut}
use Rattle.link_sections.specs.LaidOut.{LaidOut, cuts_at}
use Rattle.rv_code.specs.Places.{held_at}
use Rattle.reloc_apply.specs.Image.{over, piece}
use Rattle.reloc_apply.specs.Relocated.{filled, operand, put, reach_in, reloc_defects, width_at}
use Rattle.reloc_apply.specs.Values.{computed, direct_value, entry_of, offset_of, partner_of, place_of, sum_of, thread_of, value_of}
use Rattle.reloc_apply.proofs.Placing.{past, under}

hint_lower : is_lower R_RISCV_RELAX ≡ false
unfolding is_lower kind_of
hint_lower = refl

hint_width_in : (contents : List ℕ) (cuts : List Cut) (r : Reloc) → r.kind ≡ R_RISCV_RELAX → width_in contents cuts r ≡ 0
unfolding width_in acting_number is_call is_uleb kind_of
hint_width_in contents cuts r is =
    ap (λ k. if is_uleb k then value_len contents r else (kind_of (if is_call k then kind_by_size (call_size cuts r.offset) k else k)).width) is

-- no bytes over a byte
pub none_over : (at w u q : ℕ) (bytes : List ℕ) → w ≡ 0 → over (piece at (take w bytes)) u q ≡ u
none_over at w u q bytes none = ap (λ n. over (piece at (take n bytes)) u q) none ∙ nothing
  where
    nothing : over (piece at (take 0 bytes)) u q ≡ u
    nothing = elim (cases_lt q at) [
      | inl lt ↦ under at q (at + length (take 0 bytes)) (slice_index (take 0 bytes) (q - at)) u lt
      | inr le ↦ past at q (at + length (take 0 bytes)) (slice_index (take 0 bytes) (q - at)) u (omega (arith, le))
    ]

module _ (files : List File) (b : Bindings) (leaders : List (Option ℕ)) (laid : LaidOut) (n : ℕ) (r : Reloc) (is : r.kind ≡ R_RISCV_RELAX) where
  pub hint_width : width_at files b leaders laid n r ≡ 0
  hint_width = hint_width_in (sites.contents_at files n) (cuts_at laid n) r is

  hint_value : (held : ℤ) → value_of files b leaders laid n r held ≡ None
  unfolding value_of direct_value is_lower kind_of
  hint_value held =
      ap (λ k. if is_lower k then option_and_then (λ p. direct_value files b leaders laid n p (pos 0)) (partner_of files b leaders laid n r)
      else computed (kind_of k).calculation (sum_of files b leaders laid n r) (place_of files b leaders laid n r) (thread_of files b leaders laid n r) (entry_of files b leaders laid n r) held) is

  pub hint_put : (p : Reloc) (bytes : List ℕ) → put files b leaders laid n p r bytes ≡ bytes
  hint_put p bytes =
      let at = offset_of files b leaders laid n r in
      let w = width_at files b leaders laid n r in
      let e : at + 0 ≡ at = omega arith in
      ap (λ v. take at bytes ++ (filled (is_uleb r.kind) (acting_kind (cuts_at laid n) r) v (take w (drop at bytes)) ++ drop (at + w) bytes)) (hint_value (operand files b leaders laid n p r (held_at w at bytes)))
      ∙ ap (λ m. take at bytes ++ (take m (drop at bytes) ++ drop (at + m) bytes)) hint_width
      ∙ ap (λ m. take at bytes ++ drop m bytes) e ∙ take-append-drop at bytes

  pub hint_defects : (p : Reloc) → reloc_defects files b leaders laid n p r ≡ []
  unfolding reloc_defects
  hint_defects p =
      let place = sites.place_of files n in
      let reach = reach_in (is_uleb r.kind) (acting_kind (cuts_at laid n) r) (width_at files b leaders laid n r) in
      ap (λ t. if t && not (is_some (partner_of files b leaders laid n r)) then reloc_defect kinds.NO_PARTNER place.file place.index r 0 ∷ []
      else value_defects place r reach (value_of files b leaders laid n r (operand files b leaders laid n p r (pos 0)))) (ap is_lower is ∙ hint_lower)
      ∙ ap (value_defects place r reach) (hint_value (operand files b leaders laid n p r (pos 0)))
