-- A shortened call whose distance is even and within its reach has no defect.
use Rattle.std.proofs.Common.{◌≡◌, ℕ, ◌+◌, ◌-◌, ◌≤◌, ◌%◌, ◌⊎◌, ◌==◌, ◌&&◌, ◌||◌, not, true, false, if◌then◌else◌, Option, Some, None, List, [], ◌∷◌, get_or, refl, ap, ◌∙◌, subst, arith, inl, inr, ℤ, pos, ◌+ℤ◌, ◌-ℤ◌}
use Rattle.std.specs.Prelude.{is_some, option_and_then}
use Rattle.std.proofs.lemmas.Bool.{eqb-true, or_cases}
use Rattle.lk_base.specs.Reaches.{even_from_to, minus, misfit_of}
use Rattle.lk_base.specs.RelocKinds.{is_lower, is_uleb, kind_of}
use Rattle.lk_base.specs.declared.abi.TheConstants.{R_RISCV_CALL, R_RISCV_CALL_PLT, R_RISCV_JAL, R_RISCV_RVC_JUMP}
use Rattle.lk_base.specs.declared.relocations.Calculation.TheVariants.{Distance}
use Rattle.lk_base.specs.declared.kinds.TheConstants as kinds
use Rattle.lk_tables.specs.declared.objects.Reloc.{Reloc}
use Rattle.lk_tables.specs.Binding.{Bindings}
use Rattle.lk_tables.specs.Files.{File, no_reloc}
use Rattle.lk_tables.specs.Sites.{place_of, relocs_of}
use Rattle.lk_tables.specs.Walks.{reloc_defect}
use Rattle.lk_tables.specs.Misfits.{misfit_defects, value_defects}
use Rattle.link_sections.specs.declared.targets.Target.TheVariants as targets
use Rattle.link_sections.specs.Addresses.{target_address}
use Rattle.link_sections.specs.Calls.{acting_number, call_size, is_call, kind_by_size}
use Rattle.link_sections.specs.Cuts.{new_offset}
use Rattle.link_sections.specs.LaidOut.{LaidOut, address_in, cuts_at, start_at}
use Rattle.link_sections.specs.PieceTargets.{target_at}
use Rattle.link_sections.specs.PoolViews.{Merged}
use Rattle.relax.specs.Jumps.{reach}
use Rattle.reloc_apply.specs.Relocated.{operand, reach_in, reloc_defects, width_at}
use Rattle.reloc_apply.specs.Values.{addend_of, computed, direct_value, entry_of, partner_of, place_of as place_at, sum_of, target_in, thread_of, value_of}
use Rattle.link_driver.proofs.Reached.{Reaches}
use Rattle.link_driver.proofs.Values.{distance_taken}

-- a call takes the distance to its own target
record IsCallLine (kind : ℕ) : Type 0 where
  lower : is_lower kind ≡ false
  plain : is_uleb kind ≡ false
  calculation : (kind_of kind).calculation ≡ Distance

first_line : IsCallLine R_RISCV_CALL
unfolding is_lower is_uleb kind_of
first_line = record { lower = refl; plain = refl; calculation = refl }

second_line : IsCallLine R_RISCV_CALL_PLT
unfolding is_lower is_uleb kind_of
second_line = record { lower = refl; plain = refl; calculation = refl }

call_line : (kind : ℕ) → is_call kind ≡ true → IsCallLine kind
unfolding is_call
call_line kind is = elim (or_cases (R_RISCV_CALL == kind) ((R_RISCV_CALL_PLT == kind) || false) is) [
  | inl first ↦ subst IsCallLine (eqb-true R_RISCV_CALL kind first) first_line
  | inr rest ↦ elim (or_cases (R_RISCV_CALL_PLT == kind) false rest) [
    | inl second ↦ subst IsCallLine (eqb-true R_RISCV_CALL_PLT kind second) second_line
    | inr none ↦ let wrong : ⊥ = cc in absurd wrong
  ]
]

-- the values of `jal` and of `c.j`
jal_reach : (kind_of R_RISCV_JAL).reach ≡ even_from_to (minus 1048576) (pos 1048574)
unfolding kind_of
jal_reach = refl

jump_reach : (kind_of R_RISCV_RVC_JUMP).reach ≡ even_from_to (minus 2048) (pos 2046)
unfolding kind_of
jump_reach = refl

taken_by : (size kind a p : ℕ) → (size ≡ 2) ⊎ (size ≡ 4) → a % 2 ≡ 0 → p % 2 ≡ 0 → (p ≤ a → a - p ≤ reach size true) → (a ≤ p → p - a ≤ reach size false)
    → misfit_of (kind_of (kind_by_size size kind)).reach (pos a -ℤ pos p) ≡ None
taken_by size kind a p is a_even p_even ahead back = elim is [
  | inl two ↦
      let e : kind_by_size size kind ≡ R_RISCV_RVC_JUMP = ap (λ s. kind_by_size s kind) two in
      ap (λ k. misfit_of (kind_of k).reach (pos a -ℤ pos p)) e ∙ ap (λ r. misfit_of r (pos a -ℤ pos p)) jump_reach
      ∙ distance_taken 2048 2046 a p (omega arith) a_even p_even (λ le. omega (arith, ahead le, ap (λ s. reach s true) two)) (λ le. omega (arith, back le, ap (λ s. reach s false) two))
  | inr four ↦
      let e : kind_by_size size kind ≡ R_RISCV_JAL = ap (λ s. kind_by_size s kind) four in
      ap (λ k. misfit_of (kind_of k).reach (pos a -ℤ pos p)) e ∙ ap (λ r. misfit_of r (pos a -ℤ pos p)) jal_reach
      ∙ distance_taken 1048576 1048574 a p (omega arith) a_even p_even (λ le. omega (arith, ahead le, ap (λ s. reach s true) four)) (λ le. omega (arith, back le, ap (λ s. reach s false) four))
]

module _ (files : List File) (b : Bindings) (leaders : List (Option ℕ)) (laid : LaidOut) (n k : ℕ) (merged : List (Option Merged)) (merged_is : laid.merging.merged ≡ merged)
    (is : Reaches files b merged leaders laid n k) where
  abbrev r : Reloc
  r = get_or (relocs_of files n) k no_reloc

  abbrev a : ℕ
  a = address_in leaders laid is.section is.offset

  abbrev p : ℕ
  p = start_at laid n + new_offset (cuts_at laid n) r.offset

  own_target : target_in files b leaders laid n r ≡ targets.Section is.section is.offset (pos 0)
  unfolding target_in
  own_target = ap (λ l. target_at files b l n k) merged_is ∙ is.target

  own_sum : sum_of files b leaders laid n r ≡ pos a
  unfolding sum_of
  own_sum =
      ap (λ t. pos (target_address files b leaders laid t) +ℤ addend_of t r) own_target ∙ ap pos plus_none
    where
      plus_none : a + 0 ≡ a
      plus_none = omega arith

  own_value : (held : ℤ) → is_call r.kind ≡ true → value_of files b leaders laid n r held ≡ Some (pos a -ℤ pos p)
  unfolding value_of direct_value
  own_value held call =
      let line = call_line r.kind call in
      ap (λ t. if t then option_and_then (λ (q : Reloc). direct_value files b leaders laid n q (pos 0)) (partner_of files b leaders laid n r) else computed (kind_of r.kind).calculation (sum_of files b leaders laid n r) (place_at files b leaders laid n r) (thread_of files b leaders laid n r) (entry_of files b leaders laid n r) held) line.lower
      ∙ ap (λ c. computed c (sum_of files b leaders laid n r) (place_at files b leaders laid n r) (thread_of files b leaders laid n r) (entry_of files b leaders laid n r) held) line.calculation
      ∙ ap (λ s. Some (s -ℤ place_at files b leaders laid n r)) own_sum

  pub none_defect : is_call r.kind ≡ true → (before : Reloc) → reloc_defects files b leaders laid n before r ≡ []
  unfolding reloc_defects acting_number
  none_defect call before =
      let line = call_line r.kind call in
      let size = call_size (cuts_at laid n) r.offset in
      let held : ℤ = operand files b leaders laid n before r (pos 0) in
      let kind = kind_of (if is_call r.kind then kind_by_size size r.kind else r.kind) in
      let width : ℕ = width_at files b leaders laid n r in
      let number : (if is_call r.kind then kind_by_size size r.kind else r.kind) ≡ kind_by_size size r.kind = ap (λ t. if t then kind_by_size size r.kind else r.kind) call in
      let fits = taken_by size r.kind a p is.size is.target_even is.place_even is.ahead is.back in
      ap (λ t. if t && not (is_some (partner_of files b leaders laid n r)) then reloc_defect kinds.NO_PARTNER (place_of files n).file (place_of files n).index r 0 ∷ [] else value_defects (place_of files n) r (reach_in (is_uleb r.kind) kind width) (value_of files b leaders laid n r held)) line.lower
      ∙ ap (λ u. value_defects (place_of files n) r (reach_in u kind width) (value_of files b leaders laid n r held)) line.plain
      ∙ ap (value_defects (place_of files n) r kind.reach) (own_value held call)
      ∙ ap (λ m. misfit_defects (place_of files n) r (pos a -ℤ pos p) (misfit_of (kind_of m).reach (pos a -ℤ pos p))) number
      ∙ ap (misfit_defects (place_of files n) r (pos a -ℤ pos p)) fits
