-- Relocations that set all bits of their places leave the same bytes there, whatever these held.
use Rattle.std.proofs.Common.{◌≡◌, ℕ, ◌+◌, ◌-◌, ◌<◌, ◌≤◌, ◌&&◌, not, Bool, true, false, List, [], ◌∷◌, take, drop, slice_index, refl, sym, ap, ◌∙◌, arith, ℤ, ◌-ℤ◌, Option, Some, pos}
use Rattle.std.specs.Prelude.{if◌then◌else◌, option_and_then}
use Rattle.std.proofs.lemmas.Bool.{and_parts}
use Rattle.std.proofs.lemmas.List.{length-drop, length-take-le}
use Rattle.lk_base.specs.RelocKinds.{Kind, is_lower, is_partner, is_uleb, kind_of}
use Rattle.lk_base.specs.declared.abi.TheConstants.{R_RISCV_32, R_RISCV_32_PCREL, R_RISCV_64, R_RISCV_PLT32, R_RISCV_SET16, R_RISCV_SET32, R_RISCV_SET8}
use Rattle.lk_base.specs.declared.relocations.Calculation.{Calculation}
use Rattle.lk_base.specs.declared.relocations.Calculation.TheVariants.{Nothing, Hint, Padding, Address, Distance, Partner, GotDistance, ThreadOffset, Increase, Decrease}
use Rattle.lk_base.proofs.TableLines.{width_few}
use Rattle.lk_tables.proofs.Widths.{no_uleb}
use Rattle.lk_tables.specs.declared.objects.Reloc.{Reloc}
use Rattle.lk_tables.specs.Binding.{Bindings}
use Rattle.lk_tables.specs.Files.{File}
use Rattle.link_sections.specs.Calls.{acting_kind, acting_number, is_call, kind_by_size, call_size}
use Rattle.link_sections.specs.Cuts.{Cut}
use Rattle.link_sections.specs.LaidOut.{LaidOut, cuts_at}
use Rattle.rv_code.specs.Places.{held_at}
use Rattle.reloc_apply.specs.Relocated.{filled, operand, put}
use Rattle.reloc_apply.specs.Sites.{sets_all}
use Rattle.reloc_apply.specs.Values.{computed, direct_value, entry_of, partner_of, place_of, sum_of, thread_of, value_of}
use Rattle.reloc_apply.proofs.States.{Fits, at_of, kind_at, plain_width, put_within, width_of}
use Rattle.reloc_apply.proofs.ValueKinds.{among_each}
use Rattle.reloc_apply.proofs.WholeFields.{covers, patched_same}

-- S + A or S + A - P, into all bits
abbrev pub is_sum : Calculation → Bool
is_sum Address = true
is_sum Distance = true
is_sum _ = false

abbrev is_set : Kind → Bool
is_set k = is_sum k.calculation && covers k.field k.width

set_kind : (n : ℕ) → sets_all n ≡ true → is_set (kind_of n) ≡ true
unfolding sets_all kind_of
set_kind n is = among_each (λ m. is_set (kind_of m)) (R_RISCV_32 ∷ R_RISCV_64 ∷ R_RISCV_SET8 ∷ R_RISCV_SET16 ∷ R_RISCV_SET32 ∷ R_RISCV_32_PCREL ∷ R_RISCV_PLT32 ∷ []) n refl is

no_call : (n : ℕ) → sets_all n ≡ true → not (is_call n) ≡ true
unfolding sets_all is_call
no_call n is = among_each (λ m. not (is_call m)) (R_RISCV_32 ∷ R_RISCV_64 ∷ R_RISCV_SET8 ∷ R_RISCV_SET16 ∷ R_RISCV_SET32 ∷ R_RISCV_32_PCREL ∷ R_RISCV_PLT32 ∷ []) n refl is

no_number : (n : ℕ) → sets_all n ≡ true → is_uleb n ≡ false
unfolding sets_all is_uleb
no_number n is = no_uleb n (R_RISCV_32 ∷ R_RISCV_64 ∷ R_RISCV_SET8 ∷ R_RISCV_SET16 ∷ R_RISCV_SET32 ∷ R_RISCV_32_PCREL ∷ R_RISCV_PLT32 ∷ []) refl is

own_if : (c : Bool) (x n : ℕ) → not c ≡ true → (if c then x else n) ≡ n
own_if true x n is = cc
own_if false x n is = refl

pub set_acting : (cuts : List Cut) (r : Reloc) → sets_all r.kind ≡ true → acting_number cuts r ≡ r.kind
unfolding acting_number
set_acting cuts r is = own_if (is_call r.kind) (kind_by_size (call_size cuts r.offset) r.kind) r.kind (no_call r.kind is)

covers_acting : (cuts : List Cut) (r : Reloc) → sets_all r.kind ≡ true → covers (acting_kind cuts r).field (acting_kind cuts r).width ≡ true
covers_acting cuts r is =
    ap (λ n. covers (kind_of n).field (kind_of n).width) (set_acting cuts r is)
    ∙ (and_parts (is_sum (kind_of r.kind).calculation) (covers (kind_of r.kind).field (kind_of r.kind).width) (set_kind r.kind is)).1

-- its value, whatever the place held
sum_value : (c : Calculation) (o : Option ℤ) (sum place thread entry : ℤ) → is_sum c ≡ true →
    (v : ℤ) × ((held : ℤ) → (if is_partner c then o else computed c sum place thread entry held) ≡ Some v)
sum_value Nothing o sum place thread entry is = let no : ⊥ = cc in absurd no
sum_value Hint o sum place thread entry is = let no : ⊥ = cc in absurd no
sum_value Padding o sum place thread entry is = let no : ⊥ = cc in absurd no
sum_value Address o sum place thread entry is = (sum, λ held. refl)
sum_value Distance o sum place thread entry is = (sum -ℤ place, λ held. refl)
sum_value Partner o sum place thread entry is = let no : ⊥ = cc in absurd no
sum_value GotDistance o sum place thread entry is = let no : ⊥ = cc in absurd no
sum_value ThreadOffset o sum place thread entry is = let no : ⊥ = cc in absurd no
sum_value Increase o sum place thread entry is = let no : ⊥ = cc in absurd no
sum_value Decrease o sum place thread entry is = let no : ⊥ = cc in absurd no

module _ (files : List File) (b : Bindings) (leaders : List (Option ℕ)) (laid : LaidOut) (n : ℕ) where
  set_value : (r : Reloc) → sets_all r.kind ≡ true → (v : ℤ) × ((held : ℤ) → value_of files b leaders laid n r held ≡ Some v)
  unfolding value_of direct_value is_lower
  set_value r is =
      sum_value (kind_of r.kind).calculation (option_and_then (λ p. direct_value files b leaders laid n p (pos 0)) (partner_of files b leaders laid n r))
      (sum_of files b leaders laid n r) (place_of files b leaders laid n r) (thread_of files b leaders laid n r) (entry_of files b leaders laid n r)
      (and_parts (is_sum (kind_of r.kind).calculation) (covers (kind_of r.kind).field (kind_of r.kind).width) (set_kind r.kind is)).0

  pub put_same : (p r : Reloc) (s t : List ℕ) (q : ℕ) → sets_all r.kind ≡ true → Fits files b leaders laid n s r → Fits files b leaders laid n t r →
      at_of files b leaders laid n r ≤ q → q < at_of files b leaders laid n r + width_of files b leaders laid n r →
      slice_index (put files b leaders laid n p r s) q ≡ slice_index (put files b leaders laid n p r t) q
  put_same p r s t q is one two le lt =
      let at = at_of files b leaders laid n r in
      let w = width_of files b leaders laid n r in
      let kind = kind_at files b leaders laid n r in
      let plain = no_number r.kind is in
      let wide = plain_width files b leaders laid n r plain in
      let value = set_value r is in
      let v = value.0 in
      let few = width_few (acting_number (cuts_at laid n) r) in
      let x = take w (drop at s) in
      let y = take w (drop at t) in
      let one_is = length-take-le w (drop at s) (omega (arith, length-drop at s, one)) in
      let two_is = length-take-le w (drop at t) (omega (arith, length-drop at t, two)) in
      put_within files b leaders laid n p r s q one le lt
      ∙ ap (λ o. slice_index (filled (is_uleb r.kind) kind o x) (q - at)) (value.1 (operand files b leaders laid n p r (held_at w at s)))
      ∙ ap (λ c. slice_index (filled c kind (Some v) x) (q - at)) plain
      ∙ patched_same kind.field kind.width v x y (q - at) (covers_acting (cuts_at laid n) r is) few (one_is ∙ wide) (two_is ∙ wide) (omega (arith, le, lt, wide))
      ∙ sym (ap (λ c. slice_index (filled c kind (Some v) y) (q - at)) plain)
      ∙ sym (ap (λ o. slice_index (filled (is_uleb r.kind) kind o y) (q - at)) (value.1 (operand files b leaders laid n p r (held_at w at t))))
      ∙ sym (put_within files b leaders laid n p r t q two le lt)
