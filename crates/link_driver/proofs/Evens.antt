-- An even offset of a section stays even: cuts stand at even offsets and lose even numbers of bytes.
use Rattle.std.proofs.Common.{◌≡◌, ℕ, zero, suc, ◌+◌, ◌-◌, ◌*◌, ◌/◌, ◌%◌, ◌<◌, ◌≤◌, ◌==◌, ◌&&◌, ◌||◌, not, Bool, true, false, if◌then◌else◌, List, [], ◌∷◌, ◌++◌, min, refl, sym, ap, ◌∙◌, subst, arith, inl, inr, nat_lt}
use Rattle.std.specs.Prelude.{All}
use Rattle.std.specs.List.{sum_by}
use Rattle.std.proofs.Math.Nat.{mod-eq_of_lt}
use Rattle.std.proofs.lemmas.Bool.{cases_lt, eqb-true, le-ltb}
use Rattle.std.proofs.lemmas.Bool.Decides.{nat_tests}
use Rattle.std.proofs.lemmas.Nat.{div-add-mod', mul-mod}
use Rattle.std.proofs.lemmas.List.Elements.{All-nil, All-head, All-tail, All-cons, All-append}
use Rattle.std.proofs.lemmas.List.Sums.{sum_by-cons, sum_by_push}
use Rattle.link_sections.specs.Cuts.{Cut, kept_before, new_offset, whole_before}
use Rattle.layout.specs.Cutting.{boundary, is_short, kept_at, laid_cut, laid_cuts, needed, power_above}
use Rattle.layout.proofs.CutsPassed.{AreFrom}
use Rattle.layout.proofs.LaidCuts.{laid_are, laid_rest}
use Rattle.layout.proofs.RelocsLie.{low_from}

-- so the boundary of an alignment
above_even : (s power n : ℕ) → power % 2 ≡ 0 → power_above s power n % 2 ≡ 0
above_even zero power n even = even
above_even (suc s) power n even = by (nat_lt n power) (above_even s (2 * power) n (omega arith))
  where
    by : (b : Bool) → power_above s (2 * power) n % 2 ≡ 0 → (if b then power else power_above s (2 * power) n) % 2 ≡ 0
    by true later = even
    by false later = later

boundary_even : (whole : ℕ) → 0 < whole → boundary whole % 2 ≡ 0
unfolding boundary
boundary_even whole some =
    let e : 64 ≡ suc 63 = refl in
    rw (e, le-ltb whole 1 some) (above_even 63 2 whole refl)

pub times_even : (q n : ℕ) → n % 2 ≡ 0 → (q * n) % 2 ≡ 0
times_even q n even =
    let none : q % 2 * 0 ≡ 0 = omega arith in
    mul-mod q n 2 ∙ ap (λ k. (q % 2 * k) % 2) even ∙ ap (λ k. k % 2) none

needed_at : (b a : ℕ) → b % 2 ≡ 0 → 0 < b → ((b - a % b) % b) % 2 ≡ 0 → a % 2 ≡ 0
needed_at b a even some is =
    let whole = div-add-mod' a b in
    let q = times_even (a / b) b even in
    let less : a % b < b = omega (arith, some) in
    elim (cases_lt 0 (a % b)) [
      | inl part ↦
          let low : b - a % b < b = omega (arith, part, some) in
          let same = mod-eq_of_lt low in
          let e = ap (λ n. n % 2) same in
          omega (arith, whole, q, is, e, even, less)
      | inr none ↦ omega (arith, whole, q, none)
    ]

pub above_some : (s power n : ℕ) → 0 < power → 0 < power_above s power n
above_some zero power n some = some
above_some (suc s) power n some = by (nat_lt n power) (above_some s (2 * power) n (omega (arith, some)))
  where
    by : (b : Bool) → 0 < power_above s (2 * power) n → 0 < (if b then power else power_above s (2 * power) n)
    by true later = some
    by false later = later

no_boundary : (n : ℕ) → boundary n ≤ 0 → ⊥
unfolding boundary
no_boundary n none = let some = above_some 64 1 n (omega arith) in omega (arith, none, some)

needed_even : (address whole : ℕ) → 0 < whole → needed address whole % 2 ≡ 0 → address % 2 ≡ 0
unfolding needed
needed_even address whole some is = elim (cases_lt 0 (boundary whole)) [
  | inl wide ↦ needed_at (boundary whole) address (boundary_even whole some) wide is
  | inr none ↦ absurd (no_boundary whole none)
]

-- a cut at an even offset that has and keeps an even number of bytes
pub record IsEvenCut (c : Cut) : Type 0 where
  pub at : c.at % 2 ≡ 0
  pub whole : c.whole % 2 ≡ 0
  pub kept : c.kept % 2 ≡ 0

-- what is known of one before it is laid
pub record MayBeEven (c : Cut) : Type 0 where
  pub call : c.is_align ≡ false → IsEvenCut c
  pub whole : c.whole % 2 ≡ 0
  pub some : 0 < c.whole

min_even : (x y : ℕ) → x % 2 ≡ 0 → y % 2 ≡ 0 → min x y % 2 ≡ 0
min_even x y a b = elim (cases_lt x y) [
  | inl less ↦ let e : min x y ≡ x = omega (arith, less) in omega (arith, e, a)
  | inr most ↦ let e : min x y ≡ y = omega (arith, most) in omega (arith, e, b)
]

minus_even : (x y : ℕ) → x % 2 ≡ 0 → y % 2 ≡ 0 → (x - y) % 2 ≡ 0
minus_even x y a b = omega (arith, a, b)

sums_even : (cuts : List Cut) (o : ℕ) → All IsEvenCut cuts → o % 2 ≡ 0 → (whole_before cuts o % 2 ≡ 0) × (kept_before cuts o % 2 ≡ 0)
sums_even [] o all even = (refl, refl)
sums_even (c ∷ cs) o all even =
    let own = All-head IsEvenCut c cs all in
    let rest = sums_even cs o (All-tail IsEvenCut c cs all) even in
    let r0 = rest.0 in
    let r1 = rest.1 in
    let d = minus_even o c.at even own.at in
    let w = min_even (o - c.at) c.whole d own.whole in
    let k = min_even (o - c.at) c.kept d own.kept in
    let ws = sum_by-cons (λ (x : Cut). min (o - x.at) x.whole) c cs in
    let ks = sum_by-cons (λ (x : Cut). min (o - x.at) x.kept) c cs in
    (omega (arith, w, r0, ws), omega (arith, k, r1, ks))

-- the new offset of an even offset
pub offset_even : (cuts : List Cut) (o : ℕ) → AreFrom 0 cuts → All IsEvenCut cuts → o % 2 ≡ 0 → new_offset cuts o % 2 ≡ 0
unfolding new_offset
offset_even cuts o from all even =
    let sums = sums_even cuts o all even in
    let w = sums.0 in
    let k = sums.1 in
    let low = low_from 0 o cuts from in
    omega (arith, w, k, low, even)

-- cuts that end before an offset
abbrev IsEnded : (from : ℕ) → Cut → Type 0
IsEnded from c = (c.at + c.whole ≤ from) × (c.kept ≤ c.whole)

abbrev all_whole : List Cut → ℕ
all_whole cuts = sum_by (λ c. c.whole) cuts

ended_sums : (cuts : List Cut) (o : ℕ) → All IsEvenCut cuts → All (IsEnded o) cuts
    → ((whole_before cuts o % 2 ≡ 0) × (kept_before cuts o % 2 ≡ 0)) × (whole_before cuts o ≤ all_whole cuts)
ended_sums [] o all ended = ((refl, refl), omega arith)
ended_sums (c ∷ cs) o all ended =
    let own = All-head IsEvenCut c cs all in
    let end = All-head (IsEnded o) c cs ended in
    let e0 = end.0 in
    let e1 = end.1 in
    let rest = ended_sums cs o (All-tail IsEvenCut c cs all) (All-tail (IsEnded o) c cs ended) in
    let r0 = rest.0.0 in
    let r1 = rest.0.1 in
    let r2 = rest.1 in
    let w : min (o - c.at) c.whole ≡ c.whole = omega (arith, e0) in
    let k : min (o - c.at) c.kept ≡ c.kept = omega (arith, e0, e1) in
    let ws = sum_by-cons (λ (x : Cut). min (o - x.at) x.whole) c cs in
    let ks = sum_by-cons (λ (x : Cut). min (o - x.at) x.kept) c cs in
    let al = sum_by-cons (λ (x : Cut). x.whole) c cs in
    let ow = own.whole in
    let ok = own.kept in
    ((omega (arith, w, r0, ws, ow), omega (arith, k, r1, ks, ok)), omega (arith, ws, w, al, r2))

-- where such a cut stands is even if its new offset is
at_even : (cuts : List Cut) (o : ℕ) → All IsEvenCut cuts → All (IsEnded o) cuts → all_whole cuts ≤ o → new_offset cuts o % 2 ≡ 0 → o % 2 ≡ 0
unfolding new_offset
at_even cuts o all ended low even =
    let sums = ended_sums cuts o all ended in
    let w = sums.0.0 in
    let k = sums.0.1 in
    let most = sums.1 in
    omega (arith, w, k, most, low, even)

-- an alignment that is laid, and does not need more than it has or half a nop
not_short : (c : Cut) → is_short c ≡ false → c.is_align ≡ true → (c.kept % 2 ≡ 0) × (c.kept ≤ c.whole)
unfolding is_short
not_short c fine align = by c.is_align (c.kept % 2 == 0) refl (nat_lt c.whole c.kept) refl align fine
  where
    by : (a e : Bool) → (c.kept % 2 == 0) ≡ e → (l : Bool) → nat_lt c.whole c.kept ≡ l → a ≡ true → (a && (not e || l)) ≡ false → (c.kept % 2 ≡ 0) × (c.kept ≤ c.whole)
    by true true even false most align fine = (eqb-true (c.kept % 2) 0 even, grind (arith, nat_tests, most))
    by true true even true most align fine = cc
    by true false even l most align fine = cc
    by false e even l most align fine = cc

laid_at : (start : ℕ) (before : List Cut) (c : Cut) → (((laid_cut start before c).at ≡ c.at) × ((laid_cut start before c).whole ≡ c.whole)) × ((laid_cut start before c).is_align ≡ c.is_align)
unfolding laid_cut
laid_at start before c = ((refl, refl), refl)

laid_call : (start : ℕ) (before : List Cut) (c : Cut) → c.is_align ≡ false → (laid_cut start before c).kept ≡ c.kept
unfolding laid_cut kept_at
laid_call start before c plain = rw plain refl

laid_align : (start : ℕ) (before : List Cut) (c : Cut) → c.is_align ≡ true → (laid_cut start before c).kept ≡ needed (start + new_offset before c.at) c.whole
unfolding laid_cut kept_at
laid_align start before c align = rw align refl

one_even : (start from : ℕ) (before : List Cut) (c : Cut) → start % 2 ≡ 0 → from ≤ c.at → All IsEvenCut before → All (IsEnded from) before → all_whole before ≤ from → MayBeEven c
    → is_short (laid_cut start before c) ≡ false → c.is_align ≡ true → IsEvenCut (laid_cut start before c)
one_even start from before c even low all ended most may fine align =
    let same = laid_at start before c in
    let s0 = same.0.0 in
    let s1 = same.0.1 in
    let short = not_short (laid_cut start before c) fine (same.1 ∙ align) in
    let kept = short.0 in
    let kept_is = laid_align start before c align in
    let need : needed (start + new_offset before c.at) c.whole % 2 ≡ 0 = ap (λ n. n % 2) (sym kept_is) ∙ kept in
    let place = needed_even (start + new_offset before c.at) c.whole may.some need in
    let here : All (IsEnded c.at) before = λ k d lt. (let e = (ended k d lt).0 in omega (arith, e, low), (ended k d lt).1) in
    let at = at_even before c.at all here (omega (arith, most, low)) (omega (arith, place, even)) in
    let w = may.whole in
    record { at = omega (arith, s0, at); whole = omega (arith, s1, w); kept = kept }

call_even : (start : ℕ) (before : List Cut) (c : Cut) → MayBeEven c → c.is_align ≡ false → IsEvenCut (laid_cut start before c)
call_even start before c may plain =
    let same = laid_at start before c in
    let s0 = same.0.0 in
    let s1 = same.0.1 in
    let k = laid_call start before c plain in
    let own = may.call plain in
    let a = own.at in
    let w = own.whole in
    let h = own.kept in
    record { at = omega (arith, s0, a); whole = omega (arith, s1, w); kept = omega (arith, k, h) }

rest_even : (start from : ℕ) (before cuts : List Cut) → start % 2 ≡ 0 → AreFrom from cuts → All IsEvenCut before → All (IsEnded from) before → all_whole before ≤ from
    → All MayBeEven cuts → All (λ c. is_short c ≡ false) (laid_rest start before cuts) → All (λ c. c.kept ≤ c.whole) (laid_rest start before cuts) → All IsEvenCut (laid_rest start before cuts)
rest_even start from before [] even are all ended most may fine kept = All-nil IsEvenCut
rest_even start from before (c ∷ cs) even are all ended most may fine kept =
    let low = are.0 in
    let l : Cut = laid_cut start before c in
    let same = laid_at start before c in
    let s0 = same.0.0 in
    let s1 = same.0.1 in
    let own = All-head MayBeEven c cs may in
    let later : List Cut = laid_rest start (before ++ l ∷ []) cs in
    let here : IsEvenCut l = by c.is_align refl own (All-head (λ (x : Cut). is_short x ≡ false) l later fine) in
    let mk = All-head (λ (x : Cut). x.kept ≤ x.whole) l later kept in
    let next : ℕ = c.at + c.whole in
    let ends : All (IsEnded next) (before ++ l ∷ []) =
    All-append (IsEnded next) before (l ∷ []) (λ k d lt. (let e = (ended k d lt).0 in omega (arith, e, low), (ended k d lt).1))
    (All-cons (IsEnded next) l [] (omega (arith, s0, s1), mk) (All-nil (IsEnded next))) in
    let sum = sum_by_push (λ (x : Cut). x.whole) before l in
    All-cons IsEvenCut l later here
    (rest_even start next (before ++ l ∷ []) cs even are.1 (All-append IsEvenCut before (l ∷ []) all (All-cons IsEvenCut l [] here (All-nil IsEvenCut))) ends
    (omega (arith, sum, s1, most, low)) (All-tail MayBeEven c cs may) (All-tail (λ (x : Cut). is_short x ≡ false) l later fine) (All-tail (λ (x : Cut). x.kept ≤ x.whole) l later kept))
  where
    by : (a : Bool) → c.is_align ≡ a → MayBeEven c → is_short (laid_cut start before c) ≡ false → IsEvenCut (laid_cut start before c)
    by true is own fine = one_even start from before c even are.0 all ended most own fine is
    by false is own fine = call_even start before c own is

-- all cuts of a section that starts at an even address
pub laid_even : (start : ℕ) (cuts : List Cut) → start % 2 ≡ 0 → AreFrom 0 cuts → All MayBeEven cuts → All (λ c. is_short c ≡ false) (laid_cuts start cuts) → All (λ c. c.kept ≤ c.whole) (laid_cuts start cuts)
    → All IsEvenCut (laid_cuts start cuts)
laid_even start cuts even are may fine kept =
    let e = laid_are start cuts in
    let P : List Cut → Type 0 = λ l. All IsEvenCut l in
    subst P (sym e) (rest_even start 0 [] cuts even are (All-nil IsEvenCut) (All-nil (IsEnded 0)) (omega arith) may
    (subst (λ l. All (λ (c : Cut). is_short c ≡ false) l) e fine) (subst (λ l. All (λ (c : Cut). c.kept ≤ c.whole) l) e kept))
