-- What stays of a call's place lies in what stays of its section.
use Rattle.std.proofs.Common.{◌≡◌, ℕ, ◌+◌, ◌-◌, ◌<◌, ◌≤◌, ◌⊎◌, ◌==◌, ◌||◌, not, Bool, true, false, Option, Some, None, if◌then◌else◌, List, [], ◌∷◌, find, min, max, refl, sym, ap, ◌∙◌, subst, All, inl, inr, arith}
use Rattle.std.specs.Option.{option_map_or}
use Rattle.std.proofs.lemmas.Bool.{and_from, and_parts, eq-eqb, eqb-true}
use Rattle.std.proofs.lemmas.List.Elements.{All-nil, All-head, All-tail, All-cons}
use Rattle.std.proofs.lemmas.List.Sums.{sum_by-cons}
use Rattle.lk_base.specs.declared.abi.TheConstants.{R_RISCV_CALL, R_RISCV_CALL_PLT}
use Rattle.lk_base.specs.RelocKinds.{is_uleb, kind_of}
use Rattle.lk_tables.specs.declared.objects.Reloc.{Reloc}
use Rattle.lk_tables.specs.Relocations.{value_len}
use Rattle.lk_tables.proofs.Widths.{no_uleb, value_plain}
use Rattle.link_sections.specs.Calls.{IsOwnCall, acting_number, acting_width, call_size, is_call, is_call_cut, kind_by_size, width_in}
use Rattle.link_sections.specs.Cuts.{AreApart, Cut, kept_before, new_offset, whole_before}
use Rattle.link_sections.proofs.CutSums.{new_rises}
use Rattle.layout.proofs.CutsPassed.{AreFrom, apart_from}
use Rattle.layout.proofs.RelocsLie.{IsClear, Lies, lies_still, low_from}

-- a cut comes before or after a place, or is that of its call
abbrev pub IsMet : (contents : List ℕ) → Reloc → Cut → Type 0
IsMet contents r c = (c.at + c.whole ≤ r.offset) ⊎ ((r.offset + value_len contents r ≤ c.at) ⊎ IsOwnCall c r)

clear_by : (contents : List ℕ) (r : Reloc) (c : Cut) → (IsOwnCall c r → ⊥) → IsMet contents r c → IsClear r.offset (value_len contents r) c
clear_by contents r c other (inl before) = inl before
clear_by contents r c other (inr (inl after)) = inr after
clear_by contents r c other (inr (inr own)) = absurd (other own)

-- a call's place has eight bytes
one_of : (n kind : ℕ) → (n == kind) ≡ true → (kind_of n).width ≡ 8 → (kind_of kind).width ≡ 8
one_of n kind is width = subst (λ k. (kind_of k).width ≡ 8) (eqb-true n kind is) width

call_width : (kind : ℕ) → is_call kind ≡ true → (kind_of kind).width ≡ 8
unfolding is_call kind_of
call_width kind is = by (R_RISCV_CALL == kind) (R_RISCV_CALL_PLT == kind) refl refl is
  where
    by : (a b : Bool) → (R_RISCV_CALL == kind) ≡ a → (R_RISCV_CALL_PLT == kind) ≡ b → (a || (b || false)) ≡ true → (kind_of kind).width ≡ 8
    by true b one other is = one_of R_RISCV_CALL kind one refl
    by false true one other is = one_of R_RISCV_CALL_PLT kind other refl
    by false false one other is = cc

-- and is no ULEB128 number
call_plain : (kind : ℕ) → is_call kind ≡ true → is_uleb kind ≡ false
unfolding is_call is_uleb
call_plain kind is = no_uleb kind (R_RISCV_CALL ∷ R_RISCV_CALL_PLT ∷ []) refl is

call_len : (contents : List ℕ) (r : Reloc) → is_call r.kind ≡ true → value_len contents r ≡ 8
call_len contents r is = value_plain contents r (call_plain r.kind is) ∙ call_width r.kind is

-- and as many as stay once it is shortened
short_width : (kept kind : ℕ) → (kept ≡ 2) ⊎ (kept ≡ 4) → (kind_of (kind_by_size kept kind)).width ≡ kept
unfolding kind_of
short_width kept kind (inl two) = rw two refl
short_width kept kind (inr four) = rw four refl

-- the first cut that passes, and those of which none does
none_found : (test : Cut → Bool) (cuts : List Cut) → find test cuts ≡ None → All (λ c. test c ≡ false) cuts
none_found test [] none = All-nil (λ (c : Cut). test c ≡ false)
none_found test (c ∷ cs) none = by (test c) refl none (none_found test cs)
  where
    by : (b : Bool) → test c ≡ b → (if b then Some c else find test cs) ≡ None → (find test cs ≡ None → All (λ x. test x ≡ false) cs) → All (λ x. test x ≡ false) (c ∷ cs)
    by true is none later = cc
    by false is none later = All-cons (λ (x : Cut). test x ≡ false) c cs is (later none)

kept_rises : (cuts : List Cut) (o w : ℕ) → kept_before cuts o ≤ kept_before cuts (o + w)
kept_rises [] o w = omega arith
kept_rises (c ∷ cs) o w =
    omega (arith, sum_by-cons (λ (x : Cut). min (o - x.at) x.kept) c cs, sum_by-cons (λ (x : Cut). min (o + w - x.at) x.kept) c cs, kept_rises cs o w)

-- such a cut, and that what it keeps stays of the bytes that follow it
record IsFound (test : Cut → Bool) (P : Cut → Type 0) (cuts : List Cut) (c : Cut) : Type 0 where
  passes : test c ≡ true
  holds : P c
  kept : (w : ℕ) → c.kept ≤ w → kept_before cuts c.at + c.kept ≤ kept_before cuts (c.at + w)

one_found : (test : Cut → Bool) (P : Cut → Type 0) (cuts : List Cut) (c : Cut) → All P cuts → find test cuts ≡ Some c → IsFound test P cuts c
one_found test P [] c all is = cc
one_found test P (x ∷ xs) c all is = by (test x) refl is (one_found test P xs c (All-tail P x xs all))
  where
    sums : (o : ℕ) → kept_before (x ∷ xs) o ≡ min (o - x.at) x.kept + kept_before xs o
    sums o = sum_by-cons (λ (y : Cut). min (o - y.at) y.kept) x xs

    same : Some x ≡ Some c → x ≡ c
    same e = cc

    by : (b : Bool) → test x ≡ b → (if b then Some x else find test xs) ≡ Some c → (find test xs ≡ Some c → IsFound test P xs c) → IsFound test P (x ∷ xs) c
    by true passes is later = subst (IsFound test P (x ∷ xs)) (same is) (record {
      passes = passes;
      holds = All-head P x xs all;
      kept = λ w most. omega (arith, sums x.at, sums (x.at + w), kept_rises xs x.at w, most);
    })
    by false passes is later =
        let one = later is in
        record {
          passes = one.passes;
          holds = one.holds;
          kept = λ w most. omega (arith, sums c.at, sums (c.at + w), one.kept w most);
        }

-- no more lies between two offsets than there is between them
whole_between : (from x y : ℕ) (cuts : List Cut) → AreFrom from cuts → x ≤ y → whole_before cuts y ≤ whole_before cuts x + (y - max x from)
whole_between from x y [] are le = omega arith
whole_between from x y (c ∷ cs) are le =
    let low : from ≤ c.at = are.0 in
    let e : ℕ = c.at + c.whole in
    let rest : whole_before cs y ≤ whole_before cs x + (y - max x e) = whole_between e x y cs are.1 le in
    let sums : (o : ℕ) → whole_before (c ∷ cs) o ≡ min (o - c.at) c.whole + whole_before cs o = λ o. sum_by-cons (λ (x : Cut). min (o - x.at) x.whole) c cs in
    let own : min (y - c.at) c.whole + (y - max x e) ≤ min (x - c.at) c.whole + (y - max x from) = omega (arith, low, le) in
    omega (arith, sums x, sums y, rest, own)

-- so what a call keeps comes after its new offset
kept_after : (cuts : List Cut) (c : Cut) → AreApart cuts → kept_before cuts c.at + c.kept ≤ kept_before cuts (c.at + 8)
    → new_offset cuts c.at + c.kept ≤ new_offset cuts (c.at + 8)
unfolding new_offset
kept_after cuts c apart kept =
    let from = apart_from cuts apart in
    omega (arith, kept, whole_between 0 c.at (c.at + 8) cuts from (omega arith), low_from 0 c.at cuts from, low_from 0 (c.at + 8) cuts from)

-- the place of a relocation, as it is filled
module _ (contents : List ℕ) (cuts : List Cut) (size : ℕ) (r : Reloc) (apart : AreApart cuts) (some : All (λ c. 0 < c.whole) cuts) (lies : Lies contents size r)
    (met : 0 < value_len contents r → All (IsMet contents r) cuts) where
  own_of : (c : Cut) → is_call_cut r.offset c ≡ true → value_len contents r ≡ 8 → 0 < c.whole → IsMet contents r c → (c.at ≡ r.offset) × IsOwnCall c r
  own_of c passes width whole met =
      let at : c.at ≡ r.offset = eqb-true c.at r.offset (and_parts (c.at == r.offset) (not c.is_align) passes).0 in
      (at, by at met)
    where
      by : c.at ≡ r.offset → IsMet contents r c → IsOwnCall c r
      by at (inl before) = absurd (omega (arith, at, before, whole))
      by at (inr (inl after)) = absurd (omega (arith, at, after, width))
      by at (inr (inr own)) = own

  other : (is_call r.kind ≡ true → All (λ c. is_call_cut r.offset c ≡ false) cuts) → new_offset cuts r.offset + value_len contents r ≤ new_offset cuts size
  other none =
      lies_still cuts size r.offset (value_len contents r) apart lies (λ wide k d lt. clear_by contents r _ (λ own.
      let here = none own.call k d lt in
      let passes = and_from _ _ (eq-eqb _ _ own.at) (ap not own.plain) in
      let no_way : true ≡ false = sym passes ∙ here in cc) (met wide k d lt))

  found : (f : Option Cut) → find (is_call_cut r.offset) cuts ≡ f → is_call r.kind ≡ true
      → new_offset cuts r.offset + (kind_of (kind_by_size (option_map_or (λ (c : Cut). c.kept) f 8) r.kind)).width ≤ new_offset cuts size
  found None is call =
      subst (λ w. new_offset cuts r.offset + w ≤ new_offset cuts size) (value_plain contents r (call_plain r.kind call)) (other (λ _. none_found (is_call_cut r.offset) cuts is))
  found (Some c) is call =
      let width = call_len contents r call in
      let one = one_found (is_call_cut r.offset) (λ x. (0 < x.whole) × IsMet contents r x) cuts c (λ k d lt. (some k d lt, met (omega (arith, width)) k d lt)) is in
      let own = own_of c one.passes width one.holds.0 one.holds.1 in
      let at : c.at ≡ r.offset = own.0 in
      let short : c.kept ≤ 8 = most c.kept own.1.kept in
      let after = kept_after cuts c apart (one.kept 8 short) in
      let same : new_offset cuts c.at ≡ new_offset cuts r.offset = ap (new_offset cuts) at in
      let rises = new_rises cuts (c.at + 8) size apart (omega (arith, at, lies, width)) in
      omega (arith, after, same, rises, short_width c.kept r.kind own.1.kept)
    where
      most : (kept : ℕ) → (kept ≡ 2) ⊎ (kept ≡ 4) → kept ≤ 8
      most kept (inl two) = omega (arith, two)
      most kept (inr four) = omega (arith, four)

  acting_lies : is_uleb r.kind ≡ false → new_offset cuts r.offset + acting_width cuts r ≤ new_offset cuts size
  unfolding acting_number call_size
  acting_lies plain = by (is_call r.kind) refl
    where
      by : (b : Bool) → is_call r.kind ≡ b
          → new_offset cuts r.offset + (kind_of (if b then kind_by_size (option_map_or (λ (c : Cut). c.kept) (find (is_call_cut r.offset) cuts) 8) r.kind else r.kind)).width ≤ new_offset cuts size
      by true is = found (find (is_call_cut r.offset) cuts) refl is
      by false is =
          subst (λ w. new_offset cuts r.offset + w ≤ new_offset cuts size) (value_plain contents r plain) (other (λ call. let no_way : true ≡ false = sym call ∙ is in cc))

  pub width_lies : new_offset cuts r.offset + width_in contents cuts r ≤ new_offset cuts size
  unfolding width_in
  width_lies = by (is_uleb r.kind) refl
    where
      by : (b : Bool) → is_uleb r.kind ≡ b → new_offset cuts r.offset + (if b then value_len contents r else acting_width cuts r) ≤ new_offset cuts size
      by true uleb = other (λ call. let no_way : true ≡ false = sym uleb ∙ call_plain r.kind call in cc)
      by false plain = acting_lies plain
