-- Cuts as the code holds them, by number.
use Rattle.std.proofs.Common.{◌≡◌, ℕ, ◌<◌, ◌≤◌, List, length, get_or, ap, arith}
use Rattle.std.specs.List.Sorted.{IsNonDecreasingBy}
use Rattle.std.proofs.lemmas.List.{get_or-map, get_or_default, length-map}
use Rattle.link_sections.specs.declared.cuts.Cut.{Cut as HeldCut}
use Rattle.link_sections.specs.Cuts.{Cut, new_offset}
use Rattle.link_sections.specs.CutsView.{AreCuts, cut_view, cut_views}
use Rattle.link_sections.proofs.CutSums.{in_order, new_rises, no_more}
use Rattle.reloc_apply.specs.Sites.{no_held}
use Rattle.reloc_apply.specs.Staying.{no_cut}

pub viewed : (cuts : List HeldCut) (k : ℕ) → k < length cuts → get_or (cut_views cuts) k no_cut ≡ cut_view (get_or cuts k no_held)
viewed cuts k lt = get_or-map cut_view cuts k no_held no_cut lt

-- what is known of a cut by its number
pub record IsCut (cuts : List HeldCut) (k : ℕ) : Type 0 where
  pub at : (get_or (cut_views cuts) k no_cut).at ≡ (get_or cuts k no_held).at
  pub whole : (get_or (cut_views cuts) k no_cut).whole ≡ (get_or cuts k no_held).whole
  pub kept : (get_or (cut_views cuts) k no_cut).kept ≡ (get_or cuts k no_held).kept
  pub most : (get_or cuts k no_held).kept ≤ (get_or cuts k no_held).whole
  pub new : (get_or cuts k no_held).new_at ≡ new_offset (cut_views cuts) (get_or cuts k no_held).at
  pub low : (get_or cuts k no_held).new_at ≤ (get_or cuts k no_held).at

pub cut_is : (cuts : List HeldCut) (k : ℕ) → AreCuts cuts → k < length cuts → IsCut cuts k
cut_is cuts k are lt =
    let is = viewed cuts k lt in
    let kept = ap (λ (c : Cut). c.kept) is in
    let whole = ap (λ (c : Cut). c.whole) is in
    let most = are.apart.kept k no_cut (omega (arith, length-map cuts cut_view)) in
    let placed = are.placed k no_held lt in
    let less = no_more (cut_views cuts) (get_or cuts k no_held).at are.apart in
    record { at = ap (λ (c : Cut). c.at) is; whole = whole; kept = kept; most = omega (arith, kept, whole, most); new = placed; low = omega (arith, placed, less) }

-- they rise
pub ats_rise : (cuts : List HeldCut) → AreCuts cuts → (i j : ℕ) → i ≤ j → j < length cuts → (get_or cuts i no_held).at ≤ (get_or cuts j no_held).at
ats_rise cuts are i j le lt =
    let a = (cut_is cuts i are (omega (arith, le, lt))).at in
    let b = (cut_is cuts j are lt).at in
    let at = in_order (cut_views cuts) i j no_cut are.apart le (omega (arith, lt, length-map cuts cut_view)) in
    omega (arith, at, a, b)

pub ats_in_order : (cuts : List HeldCut) → AreCuts cuts → IsNonDecreasingBy (λ (c : HeldCut). c.at) cuts
ats_in_order cuts are = λ i j d le lt.
    let up = ats_rise cuts are i j le lt in
    let own = ap (λ (c : HeldCut). c.at) (get_or_default cuts i d no_held (omega (arith, le, lt))) in
    let other = ap (λ (c : HeldCut). c.at) (get_or_default cuts j d no_held lt) in
    omega (arith, up, own, other)

-- their new offsets rise
pub news_rise : (cuts : List HeldCut) → AreCuts cuts → IsNonDecreasingBy (λ (c : HeldCut). c.new_at) cuts
news_rise cuts are = λ i j d le lt.
    let a = cut_is cuts i are (omega arith) in
    let b = cut_is cuts j are lt in
    let first = a.new in
    let second = b.new in
    let at = in_order (cut_views cuts) i j no_cut are.apart le (omega (arith, length-map cuts cut_view)) in
    let rise = new_rises (cut_views cuts) (get_or cuts i no_held).at (get_or cuts j no_held).at are.apart (omega (arith, at, a.at, b.at)) in
    let own = ap (λ (c : HeldCut). c.new_at) (get_or_default cuts i d no_held (omega arith)) in
    let other = ap (λ (c : HeldCut). c.new_at) (get_or_default cuts j d no_held lt) in
    omega (arith, first, second, rise, own, other)
