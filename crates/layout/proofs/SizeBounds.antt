-- A member is at most three times as long as its section was.
use Rattle.std.proofs.Common.{◌≡◌, ℕ, ◌+◌, ◌*◌, ◌≤◌, List, [], ◌∷◌, ◌++◌, map, get_or, length, Bool, true, false, All, refl, sym, subst, inl, inr, if◌then◌else◌, arith}
use Rattle.std.proofs.lemmas.Bool.{cases_lt}
use Rattle.std.proofs.lemmas.List.Elements.{All-nil, All-head, All-tail, All-cons}
use Rattle.std.proofs.lemmas.List.Sums.{sum_by-cons}
use Rattle.std.proofs.Math.ListN.{get_or-eq_default}
use Rattle.link_sections.specs.declared.cuts.Cut.{Cut as HeldCut}
use Rattle.link_sections.specs.declared.members.Content.{Content}
use Rattle.link_sections.specs.declared.members.Content.TheVariants.{Section, Pool as IsPool, Got}
use Rattle.link_sections.specs.Cuts.{AreApart, Cut, kept_before, new_offset}
use Rattle.link_sections.specs.CutsView.{AreCuts, cut_views}
use Rattle.output_sections.specs.declared.rows.Row.{Row}
use Rattle.layout.specs.CutsSoFar.{all_kept}
use Rattle.layout.specs.Cutting.{kept_at, laid_cut, laid_cuts, needed}
use Rattle.layout.specs.Walk.{IsReady, cuts_in, size_at}
use Rattle.layout.proofs.Boundaries.{needed_most}
use Rattle.layout.proofs.CutSums.{all_whole, kept_most}
use Rattle.layout.proofs.CutsPassed.{AreFrom, apart_from}
use Rattle.layout.proofs.LaidCuts.{laid_are, laid_rest}
use Rattle.layout.proofs.PlacedMembers.{whole_size}

-- what each cut keeps once it is laid
kept_by : (b : Bool) (address whole kept : ℕ) → kept ≤ whole → (if b then needed address whole else kept) ≤ 2 * whole
kept_by true address whole kept most = needed_most address whole
kept_by false address whole kept most = omega (arith, most)

kept_twice : (start : ℕ) (before : List Cut) (c : Cut) → c.kept ≤ c.whole → (laid_cut start before c).kept ≤ 2 * c.whole
unfolding laid_cut kept_at
kept_twice start before c most = kept_by c.is_align (start + new_offset before c.at) c.whole c.kept most

kept_rest : (start : ℕ) (before cuts : List Cut) → All (λ c. c.kept ≤ c.whole) cuts → all_kept (laid_rest start before cuts) ≤ 2 * all_whole cuts
kept_rest start before [] most = omega arith
kept_rest start before (c ∷ cs) most =
    omega (
      arith,
      sum_by-cons (λ (x : Cut). x.kept) (laid_cut start before c) (laid_rest start (before ++ laid_cut start before c ∷ []) cs),
      sum_by-cons (λ (x : Cut). x.whole) c cs,
      kept_twice start before c (All-head (λ (x : Cut). x.kept ≤ x.whole) c cs most),
      kept_rest start (before ++ laid_cut start before c ∷ []) cs (All-tail (λ (x : Cut). x.kept ≤ x.whole) c cs most),
    )

whole_from : (size from : ℕ) (cuts : List Cut) → AreFrom from cuts → All (λ c. c.at + c.whole ≤ size) cuts → from ≤ size → from + all_whole cuts ≤ size
whole_from size from [] are within le = omega (arith, le)
whole_from size from (c ∷ cs) are within le =
    let here : c.at + c.whole ≤ size = All-head (λ (x : Cut). x.at + x.whole ≤ size) c cs within in
    omega (
      arith,
      sum_by-cons (λ (x : Cut). x.whole) c cs,
      are.0,
      whole_from size (c.at + c.whole) cs are.1 (All-tail (λ (x : Cut). x.at + x.whole ≤ size) c cs within) here,
    )

pub laid_most : (start size : ℕ) (cuts : List Cut) → AreApart cuts → All (λ c. c.at + c.whole ≤ size) cuts → new_offset (laid_cuts start cuts) size ≤ 3 * size
unfolding new_offset
laid_most start size cuts apart within =
    let e = laid_are start cuts in
    let kept : kept_before (laid_cuts start cuts) size ≤ all_kept (laid_rest start [] cuts) =
    rw e (kept_most (laid_rest start [] cuts) size) in
    omega (arith, kept, kept_rest start [] cuts apart.kept, whole_from size 0 cuts (apart_from cuts apart) within (omega arith))

pub nothing_apart : AreApart []
nothing_apart = record { kept = All-nil (λ (c : Cut). c.kept ≤ c.whole); order = λ i d lt. absurd (omega (arith, lt)) }

pub apart_at : (sizes : List (List Cut)) (n : ℕ) → All AreApart sizes → AreApart (get_or sizes n [])
apart_at sizes n all =
    elim (cases_lt n (length sizes)) [
      | inl lt ↦ all n [] lt
      | inr past ↦ subst AreApart (sym (get_or-eq_default sizes [] past)) nothing_apart
    ]

pub all_apart : (rows : List (List HeldCut)) → All AreCuts rows → All AreApart (map cut_views rows)
all_apart [] all = All-nil AreApart
all_apart (r ∷ rs) all = All-cons AreApart (cut_views r) (map cut_views rs) (All-head AreCuts r rs all).apart (all_apart rs (All-tail AreCuts r rs all))

pub size_most : (sizes : List (List Cut)) (sections pools start : ℕ) (row : Row) → All AreApart sizes → IsReady sizes sections pools row → size_at sizes start row ≤ 3 * row.size
unfolding size_at
size_most sizes sections pools start row apart ready = by row.content refl
  where
    by : (content : Content) → row.content ≡ content → new_offset (laid_cuts start (cuts_in sizes content)) row.size ≤ 3 * row.size
    by (Section n) is = laid_most start row.size (get_or sizes n []) (apart_at sizes n apart) (ready.cuts n is)
    by (IsPool p) is = omega (arith, whole_size row.size)
    by Got is = omega (arith, whole_size row.size)
