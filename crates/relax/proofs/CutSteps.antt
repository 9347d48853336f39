-- The cuts of a section, one relocation on, and where each stands.
use Rattle.std.proofs.Common.{◌≡◌, ◌≢◌, ℕ, zero, suc, ◌+◌, ◌-◌, ◌<◌, ◌==◌, Bool, true, false, cond, if◌then◌else◌, List, [], ◌∷◌, ◌++◌, length, map, take, get_or, min, refl, sym, ap, ◌∙◌, arith, inl, inr}
use Rattle.std.specs.Prelude.{nat_lt, All}
use Rattle.std.specs.List.{filter, position_or_len, range_with_len, sum_by}
use Rattle.std.proofs.lemmas.Bool.{cases_lt, eq-eqb, le-ltb, lt-ltb, ne_eqb}
use Rattle.std.proofs.lemmas.List.{get_or_past, get_or-map, length-map, map-append}
use Rattle.std.proofs.lemmas.List.Elements.{filter-append}
use Rattle.std.proofs.lemmas.List.Sums.{position_or_len_is, sum_by-cons, sum_by_more}
use Rattle.lk_base.proofs.Loops.{range_more}
use Rattle.lk_tables.specs.declared.objects.Reloc.{Reloc}
use Rattle.lk_tables.specs.Files.{no_reloc}
use Rattle.link_sections.specs.declared.cuts.Cut.{Cut as HeldCut}
use Rattle.link_sections.specs.Cuts.{AreApart, Cut, new_offset}
use Rattle.link_sections.specs.CutsView.{IsPlacedCut, cut_view, cut_views}
use Rattle.link_sections.proofs.CutSums.{by_cut, no_cut}
use Rattle.relax.specs.declared.calls.Call.{Call}
use Rattle.relax.specs.CallSizes.{cut_of, first_call, is_cut, row_at, size_in}
use Rattle.relax.specs.Jumps.{size_at}
use Rattle.relax.specs.Placing.{ArePlaced, IsOneSize, added, lost_of}

-- the cuts that the first k relocations are
abbrev pub cuts_upto : (sizes : ℕ → ℕ) → List Reloc → (k : ℕ) → List Cut
cuts_upto sizes relocs k = map (λ n. cut_of (sizes n) (get_or relocs n no_reloc)) (filter (λ n. is_cut (sizes n) (get_or relocs n no_reloc)) (range_with_len 0 k))

pub cuts_more : (sizes : ℕ → ℕ) (relocs : List Reloc) (k : ℕ) → cuts_upto sizes relocs (k + 1) ≡ cuts_upto sizes relocs k ++ added (sizes k) (get_or relocs k no_reloc)
unfolding added
cuts_more sizes relocs k =
    let B : ℕ → Bool = λ n. is_cut (sizes n) (get_or relocs n no_reloc) in
    let C : ℕ → Cut = λ n. cut_of (sizes n) (get_or relocs n no_reloc) in
    ap (λ r. map C (filter B r)) (range_more k) ∙ ap (map C) (filter-append B (range_with_len 0 k) (k ∷ []))
    ∙ map-append C (filter B (range_with_len 0 k)) (filter B (k ∷ []))
    ∙ ap (λ l. map C (filter B (range_with_len 0 k)) ++ l) (one (B k))
  where
    one : (b : Bool) → map (λ n. cut_of (sizes n) (get_or relocs n no_reloc)) (cond b (k ∷ []) []) ≡ (if b then cut_of (sizes k) (get_or relocs k no_reloc) ∷ [] else [])
    one true = refl
    one false = refl

-- the new offset of a cut's start
abbrev lost_views : List Cut → ℕ
lost_views cs = sum_by (λ (c : Cut). c.whole - c.kept) cs

record IsStanding (cs : List Cut) (i : ℕ) (d : Cut) : Type 0 where
  value : new_offset cs (get_or cs i d).at + lost_views (take i cs) ≡ (get_or cs i d).at

start_stands : (cs : List Cut) (i : ℕ) (d : Cut) → AreApart cs → All (λ (c : Cut). 0 < c.whole) cs → i < length cs → IsStanding cs i d
start_stands cs zero d apart some lt = record {
  value =
      let none = no_cut (get_or cs 0 d).at cs d apart (λ more. omega arith) in
      omega (arith, none);
}
start_stands cs (suc i) d apart some lt =
    let low : i < length cs = omega (arith, lt) in
    let one : suc i ≡ i + 1 = omega arith in
    let c : Cut = get_or cs i d in
    let next : Cut = get_or cs (i + 1) d in
    let before = (start_stands cs i d apart some low).value in
    let order = apart.order i d (omega (arith, lt)) in
    let kept = apart.kept i d low in
    let whole = some i d low in
    let by = (by_cut cs i next.at d apart low (omega (arith, order, whole)) (λ more. omega arith)).0 in
    let sum = sum_by_more (λ (x : Cut). x.whole - x.kept) cs i d low in
    let k : min (next.at - c.at) c.kept ≡ c.kept = omega (arith, order, kept) in
    let w : min (next.at - c.at) c.whole ≡ c.whole = omega (arith, order) in
    let here : new_offset cs next.at + lost_views (take (i + 1) cs) ≡ next.at = omega (arith, before, by, sum, k, w, order, kept) in
    record { value = ap (λ n. new_offset cs (get_or cs n d).at + lost_views (take n cs)) one ∙ here ∙ ap (λ n. (get_or cs n d).at) (sym one) }

lost_same : (cuts : List HeldCut) (i : ℕ) → lost_of (take i cuts) ≡ lost_views (take i (cut_views cuts))
lost_same cuts zero = refl
lost_same [] (suc i) = refl
lost_same (c ∷ cs) (suc i) = omega (arith, sum_by-cons (λ (x : HeldCut). x.whole - x.kept) c (take i cs), sum_by-cons (λ (x : Cut). x.whole - x.kept) (cut_view c) (take i (cut_views cs)), lost_same cs i)

pub placed_cuts : (cuts : List HeldCut) (lost : ℕ) → AreApart (cut_views cuts) → All (λ (c : Cut). 0 < c.whole) (cut_views cuts) → ArePlaced cuts lost → All (IsPlacedCut (cut_views cuts)) cuts
placed_cuts cuts lost apart some placed i d lt =
    let cs = cut_views cuts in
    let few = length-map cuts cut_view in
    let own = placed.each i d lt in
    let stands = (start_stands cs i (cut_view d) apart some (omega (arith, lt, few))).value in
    let at : get_or cs i (cut_view d) ≡ cut_view (get_or cuts i d) = get_or-map cut_view cuts i d (cut_view d) lt in
    let at_is = ap (λ (c : Cut). c.at) at in
    let value = ap (λ (c : Cut). new_offset cs c.at) at in
    omega (arith, own, stands, at_is, value, lost_same cuts i)

-- the size of the call at a relocation
pub size_found : (rows : List (List Call)) (z : List ℕ) (i k n : ℕ) (d : Call) → n < length (row_at rows i) → ((m : ℕ) (e : Call) → m < n → (get_or (row_at rows i) m e).reloc < k) →
    (get_or (row_at rows i) n d).reloc ≡ k → size_at z (first_call rows i + n) ≡ size_in rows z i k
unfolding size_in
size_found rows z i k n d lt before here =
    let row = row_at rows i in
    let p : Call → Bool = λ c. c.reloc == k in
    let at : position_or_len p row ≡ n = position_or_len_is p row n d (omega (arith, lt))
    (λ m less. ne_eqb (get_or row m d).reloc k (λ e. omega (arith, before m d less, e))) (λ less. eq-eqb (get_or row n d).reloc k here) in
    sym (ap (λ m. if nat_lt m (length row) then size_at z (first_call rows i + m) else 8) at
    ∙ ap (λ b. if b then size_at z (first_call rows i + n) else 8) (lt-ltb n (length row) lt))

pub size_none : (rows : List (List Call)) (z : List ℕ) (i k : ℕ) → ((m : ℕ) (e : Call) → m < length (row_at rows i) → (get_or (row_at rows i) m e).reloc ≢ k) → 8 ≡ size_in rows z i k
unfolding size_in
size_none rows z i k none =
    let row = row_at rows i in
    let p : Call → Bool = λ c. c.reloc == k in
    let d : Call = record { from = 0; offset = 0; reloc = 0; to = 0; target = 0; least = 4 } in
    let at : position_or_len p row ≡ length row = position_or_len_is p row (length row) d (omega arith)
    (λ m less. ne_eqb (get_or row m d).reloc k (none m d less)) (λ less. absurd (omega (arith, less))) in
    sym (ap (λ m. if nat_lt m (length row) then size_at z (first_call rows i + m) else 8) at
    ∙ ap (λ b. if b then size_at z (first_call rows i + length row) else 8) (le-ltb (length row) (length row) (omega arith)))

pub size_one : (rows : List (List Call)) (z : List ℕ) (i k : ℕ) → All IsOneSize z → IsOneSize (size_in rows z i k)
unfolding size_in
size_one rows z i k all =
    let row = row_at rows i in
    let p = position_or_len (λ (c : Call). c.reloc == k) row in
    by (nat_lt p (length row)) (one_at z (first_call rows i + p) all)
  where
    one_at : (y : List ℕ) (n : ℕ) → All IsOneSize y → IsOneSize (size_at y n)
    one_at y n every = elim (cases_lt n (length y)) [
      | inl lt ↦ every n 8 lt
      | inr past ↦ inr (inr (get_or_past y n 8 past))
    ]

    by : (b : Bool) {s : ℕ} → IsOneSize s → IsOneSize (if b then s else 8)
    by true one = one
    by false one = inr (inr refl)
